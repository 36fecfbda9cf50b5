use Rattle.replay_log.proofs.ChannelLoop.{AreReadTo}
use Rattle.replay_log.proofs.channels.channels_of.Given as goal

abbrev pub invariant-loop-i : goal.invariant-loop-i
invariant-loop-i l = AreReadTo l.fn.version l.bytes l.count l.i l.left l.rest
