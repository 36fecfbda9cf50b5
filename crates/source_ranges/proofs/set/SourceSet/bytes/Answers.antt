use Rattle.std.proofs.Common.{◌∙◌}
use Rattle.source_ranges.proofs.Kept.{all-bytes}
use Rattle.source_ranges.proofs.set.SourceSet.bytes.Goals as goal

pub returns : goal.returns
returns c =
    c.loop-range.invariant ∙ all-bytes c.args.self.now c.ranges-range-items.result.now c.loop-range.range-index c.ranges-range-items.ensures.value c.loop-range-test.false
