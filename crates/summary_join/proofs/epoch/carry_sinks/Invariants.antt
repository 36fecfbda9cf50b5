use Rattle.std.proofs.Common.{◌≡◌, ◌++◌, drop, map, take}
use Rattle.summary_join.specs.Labels.{carried_sink}
use Rattle.summary_join.proofs.epoch.carry_sinks.Given as goal

abbrev pub invariant-loop-number : goal.invariant-loop-number
invariant-loop-number l = l.sinks ≡ map (carried_sink l.cut l.table) (take l.number l.fn.sinks) ++ drop l.number l.fn.sinks
