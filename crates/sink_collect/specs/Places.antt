-- Where source bytes stand among the bytes of all channels, and ranges that rows list whole or not at all.
use Rattle.std.specs.Prelude.{◌≡◌, ℕ, ◌+◌, ◌*◌, ◌^◌, ◌<◌, ◌≤◌, ◌⊎◌, List, [], ◌∷◌, All}
use Rattle.std.specs.List.{flat_map}
use Rattle.flow_model.specs.declared.SourceByte.{SourceByte}
use Rattle.report_model.specs.Rows.{Row}
use Rattle.report_model.specs.Influence.{reached}
use Rattle.source_ranges.specs.declared.SourceRange.{SourceRange}
use Rattle.source_ranges.specs.Kept.{IsRange}
use Rattle.source_ranges.specs.Ranges.{byte_on, ranges_of}

-- channel after channel, 2^32 places each
abbrev pub place_on : ℕ → ℕ → ℕ
place_on channel offset = channel * 2 ^ 32 + offset

-- where a range begins, and the first place after it
abbrev pub start_of : SourceRange → ℕ
start_of r = place_on r.channel r.from

abbrev pub end_of : SourceRange → ℕ
end_of r = place_on r.channel r.past

-- the places where a range begins and ends, and those where a row begins or ends to list source bytes
abbrev pub ends_of : SourceRange → List ℕ
ends_of r = start_of r ∷ end_of r ∷ []

abbrev pub cuts_of : Row → List ℕ
cuts_of row = flat_map ends_of (ranges_of row.sources)

-- the place is not between two bytes of the range
abbrev pub IsNotWithin : SourceRange → ℕ → Type 0
IsNotWithin r place = (place ≤ start_of r) ⊎ (end_of r ≤ place)

-- the range has bytes, and none of the places is between two of them
pub record IsUncut (places : List ℕ) (r : SourceRange) : Type 0 where
  pub range : IsRange r
  pub uncut : All (IsNotWithin r) places

abbrev pub first_of : SourceRange → SourceByte
first_of r = byte_on r.channel r.from

-- the range has bytes, and all of them came where the first did
pub record IsAlike (rows : List Row) (r : SourceRange) : Type 0 where
  pub range : IsRange r
  pub alike : (offset : ℕ) → r.from ≤ offset → offset < r.past → reached rows (byte_on r.channel offset) ≡ reached rows (first_of r)
