use Rattle.std.proofs.Common.{◌≡◌, false, map, take}
use Rattle.log_model.specs.Faults.{are_left}
use Rattle.replay_log.proofs.channels.Channels.are_left.Given as goal

-- nothing is left of the channels so far
abbrev pub invariant-loop-left : goal.invariant-loop-left
invariant-loop-left l = are_left (map (λ s. s.now) (take l.left-index l.left-items)) ≡ false
