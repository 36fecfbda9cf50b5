use Rattle.std.proofs.Common.{List, ℕ, [], ◌++◌, ap, ◌∙◌}
use Rattle.log_model.specs.Moved.{received_by}
use Rattle.replay_log.proofs.Joined.{next_text}
use Rattle.replay_log.proofs.writing.received_on.Goals as goal

pub loop-call-preserved : goal.loop-call-preserved
loop-call-preserved c =
    let before = c.loop-call.bytes.items in
    let pushed = c.in_ok-extend_from_slice.ensures.items ∙ ap (λ (bytes : List ℕ). before ++ bytes) c.bytes_on.ensures in
    next_text (received_by c.args.channel) c.args.calls.now c.loop-call.call-index c.call-item.result [] before c.extend_from_slice.new.self.items
    c.loop-call-test.true c.call-item.is c.loop-call.invariant pushed
