use Rattle.std.proofs.Common.{refl, arith}
use Rattle.replay_log.proofs.Slices.{skip_is}
use Rattle.replay_log.proofs.channels.Channels.skip.Goals as goal

pub returns-then-channel-len : goal.returns-then-channel-len
returns-then-channel-len c =
    skip_is c.self.inside.left.items c.args.self.now c.args.channel c.args.count c.min.result c.index-left.result.now _ c.self.view_is
    (omega (arith, c.if-channel-len.true, c.len.ensures)) c.index-left.ensures c.min.ensures refl
