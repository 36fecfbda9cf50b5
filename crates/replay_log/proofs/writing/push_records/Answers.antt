use Rattle.log_model.specs.declared.Version.TheVariants.{Two}
use Rattle.log_model.specs.Logs.{record_text}
use Rattle.replay_log.proofs.Joined.{next_text}
use Rattle.replay_log.proofs.writing.push_records.Goals as goal

pub loop-call-preserved : goal.loop-call-preserved
loop-call-preserved c =
    next_text (record_text Two) c.args.calls.now c.loop-call.call-index c.call-item.result c.args.out.now.items c.loop-call.out.items c.push_record.new.out.items
    c.loop-call-test.true c.call-item.is c.loop-call.invariant c.in_ok-push_record.ensures
