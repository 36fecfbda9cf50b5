-- The ranges that a set of source bytes keeps.
use Rattle.std.specs.Prelude.{◌<◌, ◌≤◌, ◌^◌, List, All}
use Rattle.std.specs.List.{flat_map}
use Rattle.lists.specs.Sets.{Ascends}
use Rattle.flow_model.specs.Orders.{source_cmp}
use Rattle.source_ranges.specs.declared.SourceRange.{SourceRange}
use Rattle.source_ranges.specs.declared.set.Kept.{Kept}
use Rattle.source_ranges.specs.declared.set.Kept.TheVariants.{One, Many}
use Rattle.source_ranges.specs.Ranges.{bytes_of}
use Rattle.source_ranges.specs.RangeLaws.{AreApart}

abbrev pub ranges_in : Kept → List SourceRange
ranges_in (One ranges) = ranges
ranges_in (Many ranges) = ranges.items

-- the range has a source byte, and ends with the last offset that there is or before
abbrev pub IsRange : SourceRange → Type 0
IsRange r = (r.from < r.past) × (r.past ≤ 2 ^ 32)

-- the bytes of the ranges ascend, and each range is as long as can be
pub record AreKept (rs : List SourceRange) : Type 0 where
  pub apart : AreApart rs
  pub ascending : Ascends source_cmp (flat_map bytes_of rs)
  pub fits : All IsRange rs
