use Rattle.epoch_turns.proofs.Grouping.{join_on}
use Rattle.epoch_turns.proofs.splitting.join.Goals as goal

pub loop-group-preserved : goal.loop-group-preserved
loop-group-preserved g c =
    join_on c.loop-group.groups.items c.pop.new.self.items c.in-Some.group c.loop-group.nodes.items _ c.into_stack.result.items _ c.in-Some.ensures.items c.loop-group.invariant c.into_stack.ensures c.in_ok-append_stack.ensures
