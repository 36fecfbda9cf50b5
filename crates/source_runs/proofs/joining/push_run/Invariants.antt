use Rattle.std.proofs.Common.{◌≡◌, ◌+◌, ◌≤◌, max, ◌++◌, ◌-◌}
use Rattle.source_runs.specs.Runs.{bytes_from}
use Rattle.source_runs.proofs.joining.push_run.Given as goal

abbrev pub invariant-loop-offset : goal.invariant-loop-offset
invariant-loop-offset l = record {
  low : l.run.first ≤ l.offset;
  high : l.offset ≤ max l.run.first (l.run.last + 1);
  pushed : l.out.items ≡ l.fn.out.items ++ bytes_from l.run.channel l.run.first (l.offset - l.run.first);
}
