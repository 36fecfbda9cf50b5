use Rattle.std.proofs.Common.{◌≡◌}
use Rattle.run_beginning.proofs.Fronts.{IsCountedTo}
use Rattle.run_beginning.proofs.parts.count_before.Given as goal

-- the calls so far are among the first steps
abbrev pub invariant-loop-call : goal.invariant-loop-call
invariant-loop-call l = record {
  count : l.count ≡ l.call-index;
  counted : IsCountedTo l.steps l.records l.call-index;
}
