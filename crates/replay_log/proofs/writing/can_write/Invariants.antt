use Rattle.std.proofs.Common.{take}
use Rattle.std.specs.List.{AllByRecursion}
use Rattle.replay_log.specs.Logs.{IsKept}
use Rattle.replay_log.proofs.writing.can_write.Given as goal

-- the calls so far are of the run's channels
abbrev pub invariant-loop-call : goal.invariant-loop-call
invariant-loop-call l = AllByRecursion (IsKept l.log.inputs) (take l.call-index l.call-items)
