use Rattle.std.proofs.Common.{◌≡◌, ◌-◌, ◌++◌, drop}
use Rattle.path_find.specs.Text.{hop_lines}
use Rattle.path_find.proofs.writing.push_hops.Given as goal

abbrev pub invariant-loop-i : goal.invariant-loop-i
invariant-loop-i l = l.out.items ++ hop_lines (drop (l.i - 1) l.stops) ≡ l.fn.out.items ++ hop_lines l.stops
