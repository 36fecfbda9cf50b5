use Rattle.std.proofs.Common.{◌-◌, ◌^◌, List, length, ap, ◌∙◌, arith}
use Rattle.std.specs.Prelude.{min}
use Rattle.flow_model.specs.declared.SourceByte.{SourceByte}
use Rattle.source_ranges.specs.declared.SourceRange.{SourceRange}
use Rattle.source_ranges.proofs.Kept.{counted-more, all-bytes}
use Rattle.source_ranges.proofs.set.SourceSet.count.Goals as goal

abbrev none : SourceRange
none = record { channel = 0; from = 0; past = 0 }

pub loop-range-preserved : goal.loop-range-preserved
loop-range-preserved c =
    let more = counted-more c.ranges-range-items.result.now c.loop-range.range-index none c.loop-range-test.true in
    omega (arith, more, c.saturating_add-count.ensures, c.saturating_sub.ensures, c.loop-range.invariant)

pub returns : goal.returns
returns c =
    c.loop-range.invariant
    ∙ ap (λ (bs : List SourceByte). min (length bs) (2 ^ 64 - 1)) (all-bytes c.args.self.now c.ranges-range-items.result.now c.loop-range.range-index c.ranges-range-items.ensures.value c.loop-range-test.false)
