use Rattle.std.proofs.Common.{◌≡◌, take}
use Rattle.source_runs.specs.Runs.{all_bytes}
use Rattle.source_ranges.proofs.runs.joined.Given as goal

-- the bytes of the runs so far
abbrev pub invariant-loop-run : goal.invariant-loop-run
invariant-loop-run l = l.joined ≡ all_bytes (take l.run-index l.runs)
