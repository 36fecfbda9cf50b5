-- Neighbouring source bytes.
use Rattle.std.specs.Prelude.{ℕ, ◌+◌, ◌*◌, List, [], ◌∷◌, ◌++◌, map}
use Rattle.std.specs.List.{range_with_len}
use Rattle.flow_model.specs.declared.SourceByte.{SourceByte}

-- so many source bytes of a channel, from an offset on
abbrev pub bytes_from : ℕ → ℕ → ℕ → List SourceByte
bytes_from channel offset count = map (λ o. record { channel = channel; offset = o }) (range_with_len offset count)

-- the ten source bytes of a channel whose offsets are these tens and one more digit
abbrev pub ten_bytes : ℕ → ℕ → List SourceByte
ten_bytes channel tens = bytes_from channel (10 * tens) 10

-- a name with one more digit
abbrev pub with_digit : List ℕ → ℕ → List ℕ
with_digit stem digit = stem ++ (48 + digit) ∷ []
