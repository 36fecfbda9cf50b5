-- Runs of source bytes: bytes of one channel with neighbouring offsets.
use Rattle.std.specs.Prelude.{◌≡◌, ℕ, ◌+◌, ◌-◌, ◌<◌, ◌≤◌, ◌==◌, ◌&&◌, ◌⊎◌, nat_le, Bool, false, List, [], ◌∷◌, map}
use Rattle.std.specs.List.{flat_map, range_with_len}
use Rattle.flow_model.specs.declared.SourceByte.{SourceByte}
use Rattle.source_runs.specs.declared.runs.SourceRun.{SourceRun}

-- the byte of a channel at an offset
abbrev pub byte_on : ℕ → ℕ → SourceByte
byte_on channel offset = record { channel = channel; offset = offset }

-- so many bytes of a channel, from an offset on
abbrev pub bytes_from : ℕ → ℕ → ℕ → List SourceByte
bytes_from channel first count = map (byte_on channel) (range_with_len first count)

-- the bytes of a run, ascending: none where its last offset is below the first
abbrev pub bytes_of : SourceRun → List SourceByte
bytes_of r = bytes_from r.channel r.first (r.last + 1 - r.first)

-- the bytes of runs, one run after another
abbrev pub all_bytes : List SourceRun → List SourceByte
all_bytes rs = flat_map bytes_of rs

-- the runs are of two channels, or there is an offset between them
abbrev pub AreApart : SourceRun → SourceRun → Type 0
AreApart r s = (r.channel ≡ s.channel → ⊥) ⊎ (r.last + 1 < s.first) ⊎ (s.last + 1 < r.first)

-- the next run begins in the channel of this one, at the latest right after its last byte
abbrev pub goes_on : SourceRun → SourceRun → Bool
goes_on r s = (s.channel == r.channel) && nat_le s.first (r.last + 1)

-- the second run doesn't begin before the first
abbrev pub IsBefore : SourceRun → SourceRun → Type 0
IsBefore r s = (r.channel < s.channel) ⊎ ((r.channel ≡ s.channel) × (r.first ≤ s.first))

-- each run begins no earlier than the one before it
abbrev pub Rise : SourceRun → List SourceRun → Type 0
Rise r [] = Unit {0}
Rise r (s ∷ ss) = IsBefore r s × Rise s ss

abbrev pub AreRising : List SourceRun → Type 0
AreRising [] = Unit {0}
AreRising (r ∷ rs) = Rise r rs

-- no run goes on from the one before it
abbrev pub Stop : SourceRun → List SourceRun → Type 0
Stop r [] = Unit {0}
Stop r (s ∷ ss) = (goes_on r s ≡ false) × Stop s ss

abbrev pub AreLongest : List SourceRun → Type 0
AreLongest [] = Unit {0}
AreLongest (r ∷ rs) = Stop r rs
