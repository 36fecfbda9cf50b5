use Rattle.std.proofs.Common.{◌∙◌, ap}
use Rattle.report_model.specs.Rows.{rows_as_written}
use Rattle.replayer.specs.Jobs.{trace_of}
use Rattle.run_query.proofs.Collected.{at_beginnings}
use Rattle.run_query.proofs.answer.report_of_epochs.Goals as goal

pub rows-requires-clause-checkpoints : goal.rows-requires-clause-checkpoints
rows-requires-clause-checkpoints g c =
    at_beginnings c.args.job.now c.args.query.now c.args.cuts c.args.checkpoints.now c.requires.checkpoints c.requires.cuts

pub report_of-requires : goal.report_of-requires
report_of-requires g c =
    c.in_ok-sets.ensures ∙ ap (λ p. rows_as_written c.args.query.now (trace_of p.job)) c.requires.checkpoints
