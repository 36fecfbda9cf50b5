-- One who says each byte twice, up to a full stop.
use Rattle.std.specs.Prelude.{ℕ, Bool, false, List, [], ◌∷◌, ◌==◌, ◌||◌, if◌then◌else◌}
use Rattle.outer_wire.specs.Talks.{Answers}

abbrev pub doubled : List ℕ → List ℕ
doubled [] = []
doubled (byte ∷ bytes) = if byte == 46 then [] else byte ∷ byte ∷ doubled bytes

abbrev pub has_full_stop : List ℕ → Bool
has_full_stop [] = false
has_full_stop (byte ∷ bytes) = byte == 46 || has_full_stop bytes

abbrev pub doubling : Answers
doubling = record { says = doubled; ends = has_full_stop }
