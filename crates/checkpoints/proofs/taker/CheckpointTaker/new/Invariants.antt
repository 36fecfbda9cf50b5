use Rattle.std.proofs.Common.{◌≡◌, take}
use Rattle.checkpoints.proofs.taker.CheckpointTaker.new.Given as goal

-- the cuts so far
abbrev pub invariant-loop-number : goal.invariant-loop-number
invariant-loop-number l = l.times.items ≡ take l.number l.cuts
