use Rattle.std.proofs.Common.{◌≡◌, ◌++◌, take}
use Rattle.std.specs.List.{flat_map}
use Rattle.range_report.specs.Text.{range_part}
use Rattle.range_report.proofs.lines.push_parts.Given as goal

-- the ranges so far
abbrev pub invariant-loop-range : goal.invariant-loop-range
invariant-loop-range l = l.out.items ≡ l.fn.out.items ++ flat_map (range_part l.moved.calls.now) (take l.range-index l.range-items)
