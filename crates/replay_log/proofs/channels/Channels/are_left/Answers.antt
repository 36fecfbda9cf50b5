use Rattle.replay_log.proofs.Slices.{some_left}
use Rattle.replay_log.proofs.channels.Channels.are_left.Goals as goal

pub returns-then-not-is_empty : goal.returns-then-not-is_empty
returns-then-not-is_empty c =
    let same = c.deref-left-items.ensures.value in
    some_left c.deref-left-items.result.now c.args.self.now c.loop-left.left-index _ (rw same c.self.view_is) c.loop-left-test.true c.if-not-is_empty.ensures
