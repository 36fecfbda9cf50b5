use Rattle.std.proofs.Common.{◌∙◌}
use Rattle.std.proofs.lemmas.List.Elements.{All-weaker}
use Rattle.source_ranges.proofs.Kept.{all-bytes}
use Rattle.sink_collect.specs.Places.{IsAlike, IsUncut}
use Rattle.sink_collect.proofs.Cuts.{uncut_alike}
use Rattle.sink_collect.proofs.pieces.pieces_of.Goals as goal

pub returns-clause-bytes : goal.returns-clause-bytes
returns-clause-bytes c =
    c.loop-range.invariant.bytes
    ∙ all-bytes c.args.sources.now c.ranges-range-items.result.now c.loop-range.range-index c.ranges-range-items.ensures.value c.loop-range-test.false

pub returns-clause-alike : goal.returns-clause-alike
returns-clause-alike c =
    let cuts = c.in_ok-cuts.cuts.items in
    let rows = c.args.rows.now in
    All-weaker (IsUncut cuts) (IsAlike rows) (λ p uncut. uncut_alike rows cuts p c.in_ok-cuts.ensures.all uncut) c.loop-range.pieces.items c.loop-range.invariant.uncut
