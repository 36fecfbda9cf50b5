use Rattle.replay_log.proofs.ChannelLoop.{starts, goes_on, is_cut, are_all}
use Rattle.replay_log.proofs.channels.channels_of.Goals as goal

pub loop-i-init : goal.loop-i-init
loop-i-init c = rw c.new-left.ensures (starts c.args.version c.args.bytes.now c.args.inputs c.channel_count-count.result c.requires.whole c.requires.inputs c.channel_count-count.ensures)

pub returns-in_default-clause-fault : goal.returns-in_default-clause-fault
returns-in_default-clause-fault c = is_cut c.args.version c.args.bytes.now _ c.loop-i.i c.loop-i.left c.loop-i.rest.now c.loop-i-test.true c.loop-i.invariant c.in_default.ensures.none

pub loop-i-preserved : goal.loop-i-preserved
loop-i-preserved c =
    rw c.in_ok-add.ensures
    (goes_on c.args.version c.args.bytes.now _ c.loop-i.i c.loop-i.left c.loop-i.rest.now _ _ c.loop-i-test.true c.loop-i.invariant c.in-Some.ensures.some)

pub returns-clause-ok : goal.returns-clause-ok
returns-clause-ok c = are_all c.args.version c.args.bytes.now _ c.loop-i.i c.loop-i.left c.loop-i.rest.now c.loop-i-test.false c.loop-i.invariant
