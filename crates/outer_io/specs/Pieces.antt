-- How a text is put somewhere, one piece after another.
use Rattle.std.specs.Prelude.{◌≡◌, ℕ, List, [], ◌++◌, Result, Ok, Err, Vec}
use Rattle.std.specs.declared.alloc.Global.{Global}
use Rattle.std.proofs.Common.{◌∙◌, ap, sym, append_assoc, append-nil}

-- what is said of a place before and after: the text was put there whole; or a fault came, and at most a part of it was put
pub record Putting (S : Type 0) : Type 1 where
  pub whole : S → List ℕ → S → Type 0
  pub part : S → List ℕ → S → Type 0

-- the text was put, or a fault came
abbrev pub Puts : {S F : Type 0} → Putting S → S → List ℕ → S → Result (Unit {0}) F → Type 0
Puts putting old text new (Ok done) = putting.whole old text new
Puts putting old text new (Err fault) = putting.part old text new

-- one text after another is one text, and a part of the first is a part of both
pub record Laws {S : Type 0} (putting : Putting S) : Type 0 where
  pub nothing : (s : S) → putting.whole s [] s
  pub whole_then : (s t u : S) (xs ys : List ℕ) → putting.whole s xs t → putting.whole t ys u → putting.whole s (xs ++ ys) u
  pub part_then : (s t u : S) (xs ys : List ℕ) → putting.whole s xs t → putting.part t ys u → putting.part s (xs ++ ys) u
  pub part_first : (s t : S) (xs ys : List ℕ) → putting.part s xs t → putting.part s (xs ++ ys) t

-- ---- at the end of a vector

-- the vector gained the text; of one that is out of memory nothing is said
abbrev pub at_end : Putting (Vec ℕ Global)
at_end = record { whole = λ old text new. new.items ≡ old.items ++ text; part = λ old text new. Unit {0} }

pub at_end_laws : Laws at_end
at_end_laws = record {
  nothing = λ s. sym (append-nil s.items);
  whole_then = λ s t u xs ys p q. q ∙ ap (λ (w : List ℕ). w ++ ys) p ∙ append_assoc s.items xs ys;
  part_then = λ s t u xs ys p q. tt;
  part_first = λ s t xs ys p. tt;
}
