use Rattle.std.proofs.Common.{◌∙◌}
use Rattle.replay_log.proofs.Joined.{more_channels}
use Rattle.replay_log.proofs.writing.push_channels.Goals as goal

pub loop-channel-preserved : goal.loop-channel-preserved
loop-channel-preserved c =
    let bytes = rw c.records-calls.ensures at c.in_ok-bytes.ensures in
    more_channels _ _ _ _ c.args.log.now.records c.loop-channel.channel c.loop-channel.invariant c.in_ok-push_channel.ensures (c.as_slice.ensures.value ∙ bytes)
