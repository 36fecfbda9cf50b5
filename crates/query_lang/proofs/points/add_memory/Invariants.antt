use Rattle.std.proofs.Common.{◌≡◌, ◌++◌, ◌+◌, ◌-◌, ◌≤◌}
use Rattle.report_model.specs.Grammar.{points_of_memory}
use Rattle.query_lang.proofs.points.add_memory.Given as goal

abbrev pub invariant-loop-place : goal.invariant-loop-place
invariant-loop-place l = record {
  added : l.points.items ≡ l.fn.points.items ++ points_of_memory l.first (l.place - l.first) l.time;
  from : l.first ≤ l.place;
  up_to : l.place - l.first ≤ l.last + 1 - l.first;
}
