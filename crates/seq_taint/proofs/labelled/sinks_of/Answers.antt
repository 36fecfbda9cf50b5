use Rattle.std.proofs.Common.{◌∙◌}
use Rattle.flow_model.specs.Origins.{origins}
use Rattle.log_model.specs.Logs.{steps}
use Rattle.report_model.specs.Query.{policy_of}
use Rattle.replayer.specs.Jobs.{trace_of}
use Rattle.seq_taint.proofs.Whole.{origins_are_course, rows_of_run}
use Rattle.seq_taint.proofs.labelled.sinks_of.Goals as goal

pub returns : goal.returns
returns c q job tracked =
    let m = origins (policy_of q) (trace_of job) in
    let found = c.in_ok-tracked.ensures.found q (trace_of job) 0 (steps job.log) tracked m (origins_are_course (policy_of q) (trace_of job)) in
    c.new.ensures ∙ rows_of_run q job c.in_ok-tracked.tracked.labels c.in_ok-tracked.tracked.sinks.items found.rows
