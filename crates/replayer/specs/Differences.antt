-- Comparing what a log keeps with what its program shows, up to the first difference.
use Rattle.std.specs.Prelude.{◌≡◌, ℕ, List, [], ◌∷◌, Some, None, Result, Ok, Err, slice_index}
use Rattle.replay_model.specs.Comparison.{Compared, compared, first_different}
use Rattle.replay_model.specs.declared.Field.TheVariants as field
use Rattle.replayer.specs.declared.difference.Difference.{Difference}

abbrev pub compared_of : Difference → Compared
compared_of d = record { field = d.field; kept = d.kept; seen = d.seen }

-- comparing these fields ends so: well where none differs, else with the first that does
abbrev pub IsFirst : {T : Type 0} → List Compared → Result T Difference → Type 0
IsFirst cs (Ok done) = first_different cs ≡ None
IsFirst cs (Err d) = first_different cs ≡ Some (compared_of d)

-- the three arguments of a read or a write
abbrev pub arguments_compared : List ℕ → List ℕ → List Compared
arguments_compared kept seen =
    compared field.A0 (slice_index kept 0) (slice_index seen 0) ∷ compared field.A1 (slice_index kept 1) (slice_index seen 1) ∷ compared field.A2 (slice_index kept 2) (slice_index seen 2) ∷ []
