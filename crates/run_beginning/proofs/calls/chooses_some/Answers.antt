use Rattle.std.proofs.Common.{sym, ◌∙◌}
use Rattle.report_model.specs.Query.{has_sink}
use Rattle.run_beginning.proofs.Counting.{none_yet}
use Rattle.run_beginning.proofs.calls.chooses_some.Goals as goal

pub loop-i-preserved : goal.loop-i-preserved
loop-i-preserved c =
    c.loop-i.invariant
    ∙ none_yet (has_sink c.args.query.now) c.args.channel c.args.from c.loop-i.i c.args.count c.loop-i-test.true (sym c.sink_has.ensures ∙ c.if-sink_has.false)
