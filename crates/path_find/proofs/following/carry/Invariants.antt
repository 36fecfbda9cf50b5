use Rattle.std.proofs.Common.{◌-◌, drop}
use Rattle.path_find.specs.Trails.{Carries}
use Rattle.path_find.proofs.following.carry.Given as goal

abbrev pub invariant-loop-done : goal.invariant-loop-done
invariant-loop-done l = Carries l.fn.nodes l.fn.carriers l.number (drop (l.count - l.done) l.flow) l.nodes l.carriers
