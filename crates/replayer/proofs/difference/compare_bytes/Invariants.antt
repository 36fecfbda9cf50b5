use Rattle.std.proofs.Common.{◌≡◌, drop}
use Rattle.replay_model.specs.Comparison.{first_different, bytes_compared}
use Rattle.replayer.proofs.difference.compare_bytes.Given as goal

-- the first difference among the bytes from here on is that among all
abbrev pub invariant-loop-i : goal.invariant-loop-i
invariant-loop-i l = first_different (bytes_compared l.i (drop l.i l.kept) (drop l.i l.seen)) ≡ first_different (bytes_compared 0 l.kept l.seen)
