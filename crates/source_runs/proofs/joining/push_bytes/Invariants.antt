use Rattle.std.proofs.Common.{◌≡◌, ◌++◌, take}
use Rattle.source_runs.specs.Runs.{all_bytes}
use Rattle.source_runs.proofs.joining.push_bytes.Given as goal

abbrev pub invariant-loop-run : goal.invariant-loop-run
invariant-loop-run l = l.out.items ≡ l.fn.out.items ++ all_bytes (take l.run-index l.runs)
