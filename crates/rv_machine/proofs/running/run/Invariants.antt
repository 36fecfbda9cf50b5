use Rattle.rv_machine.specs.Effects.{state_of}
use Rattle.rv_machine.specs.Running.{pc_of}
use Rattle.rv_machine.proofs.Rows.{IsCounted}
use Rattle.rv_machine.proofs.running.run.Given as goal

abbrev pub invariant-loop-left : goal.invariant-loop-left
invariant-loop-left g l = IsCounted g.F.Follower.told g.F.Follower.wants (state_of (pc_of l.base l.first) l.fn.registers l.base l.fn.memory) l.fn.follower l.slots l.most l.left (state_of (pc_of l.base l.number) l.registers l.base l.memory) l.follower l.number

abbrev pub decreases-loop-left : goal.decreases-loop-left
decreases-loop-left g l = l.left
