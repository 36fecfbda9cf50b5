use Rattle.std.proofs.Common.{arith}
use Rattle.log_model.proofs.Ends.{end_at-le-steps_by}
use Rattle.seq_taint.proofs.Tracked.{tracked_first}
use Rattle.seq_taint.proofs.beginning.check_beginning.Goals as goal

pub returns-in_ok-finish-in-Ok-clause-tracked : goal.returns-in_ok-finish-in-Ok-clause-tracked
returns-in_ok-finish-in-Ok-clause-tracked c =
    let run = c.args.checker in
    tracked_first c.args.query.now run c.args.until c.in_ok-watching.watching c.go_to.new.watcher c.in_ok-finish-in-Ok.field-0 c.requires.begins
    (omega (arith, c.requires.ends, end_at-le-steps_by run.log.end)) c.in_ok-watching.ensures c.in-Ok.ensures.told c.in_ok-finish-in-Ok.ensures.found
