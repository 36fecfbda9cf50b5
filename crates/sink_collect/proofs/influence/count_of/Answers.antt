use Rattle.std.proofs.Common.{◌+◌, ap, ◌∙◌, length, arith}
use Rattle.std.specs.List.{flat_map}
use Rattle.std.proofs.lemmas.List.{get_or_default, take_all}
use Rattle.source_ranges.specs.declared.SourceRange.{SourceRange}
use Rattle.source_ranges.specs.Ranges.{bytes_of}
use Rattle.source_ranges.proofs.Kept.{counted-more}
use Rattle.sink_collect.specs.Places.{start_of}
use Rattle.sink_collect.proofs.Order.{one_after_another}
use Rattle.sink_collect.proofs.influence.count_of.Goals as goal

abbrev none : SourceRange
none = record { channel = 0; from = 0; past = 0 }

pub loop-range-preserved : goal.loop-range-preserved
loop-range-preserved c =
    let ranges = c.args.ranges.now in
    let k = c.loop-range.range-index in
    let more = counted-more ranges k none c.loop-range-test.true in
    let own = c.requires.fits k none c.loop-range-test.true in
    let before = c.loop-range.invariant.few none c.loop-range-test.true in
    record {
      count_is = omega (arith, more, own.0, c.loop-range.invariant.count_is);
      few = λ d inside. omega (arith, own.0, before, one_after_another ranges c.requires.fits c.requires.ascending k none inside, ap start_of (get_or_default ranges (k + 1) d none inside));
    }

pub returns : goal.returns
returns c =
    c.loop-range.invariant.count_is ∙ ap (λ rs. length (flat_map bytes_of rs)) (take_all c.loop-range.range-index c.args.ranges.now c.loop-range-test.false)
