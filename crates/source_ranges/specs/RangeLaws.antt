-- What ranges of source bytes are: they hold the bytes in order, and none can be longer.
use Rattle.std.specs.Prelude.{◌≡◌, ◌<◌, List, [], ◌∷◌}
use Rattle.std.specs.List.{flat_map}
use Rattle.flow_model.specs.declared.SourceByte.{SourceByte}
use Rattle.source_ranges.specs.declared.SourceRange.{SourceRange}
use Rattle.source_ranges.specs.Ranges.{bytes_of, ranges_of}

-- the first of these ranges, if there is one, doesn't begin where r ends
abbrev pub EndsBefore : SourceRange → List SourceRange → Type 0
EndsBefore r [] = Unit {0}
EndsBefore r (s ∷ ss) = r.channel ≡ s.channel → r.past ≡ s.from → ⊥

-- no range is empty, and none begins where the one before it ends
abbrev pub AreApart : List SourceRange → Type 0
AreApart [] = Unit {0}
AreApart (r ∷ rs) = (r.from < r.past) × EndsBefore r rs × AreApart rs

-- the ranges hold these bytes, in order, and each is as long as can be
pub record AreRangesOf (bs : List SourceByte) (rs : List SourceRange) : Type 0 where
  pub bytes : flat_map bytes_of rs ≡ bs
  pub apart : AreApart rs

abbrev pub RangesHoldBytes : Type 0
RangesHoldBytes = (bs : List SourceByte) → AreRangesOf bs (ranges_of bs)

abbrev pub RangesAreAlone : Type 0
RangesAreAlone = (bs : List SourceByte) (rs : List SourceRange) → AreRangesOf bs rs → rs ≡ ranges_of bs
