use Rattle.std.proofs.Common.{◌≡◌, ◌≤◌, length, take, reverse}
use Rattle.run_output.specs.Stack.{outside_of}
use Rattle.run_output.proofs.progress.left_after_return.Given as goal

-- none of the calls from here on returns to the address
abbrev pub invariant-loop-left : goal.invariant-loop-left
invariant-loop-left l = record {
  within : l.left ≤ length l.calls;
  none : outside_of l.address (reverse l.calls) ≡ outside_of l.address (reverse (take l.left l.calls));
}

abbrev pub decreases-loop-left : goal.decreases-loop-left
decreases-loop-left l = l.left
