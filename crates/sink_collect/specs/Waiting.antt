-- Text that waits for a place where it is put.
use Rattle.std.specs.Prelude.{◌≡◌, ℕ, List, ◌++◌}
use Rattle.outer_io.specs.Pieces.{Putting}

-- of a place and what waits: the first of what waited and of the text was put, and the rest waits; or a fault came, and at most a part of both was put
abbrev pub waiting : {S : Type 0} → Putting S → Putting (S × List ℕ)
waiting putting = record {
  whole = λ old text new. (gone : List ℕ) × putting.whole old.0 gone new.0 × (gone ++ new.1 ≡ old.1 ++ text);
  part = λ old text new. putting.part old.0 (old.1 ++ text) new.0;
}
