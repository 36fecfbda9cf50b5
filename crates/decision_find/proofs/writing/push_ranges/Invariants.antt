use Rattle.std.proofs.Common.{◌≡◌, ◌++◌, take, codes}
use Rattle.std.specs.List.{flat_map}
use Rattle.source_ranges.specs.Ranges.{range_text}
use Rattle.decision_find.proofs.writing.push_ranges.Given as goal

-- the ranges so far
abbrev pub invariant-loop-range : goal.invariant-loop-range
invariant-loop-range l = l.out.items ≡ l.fn.out.items ++ flat_map (λ r. codes " " ++ range_text r) (take l.range-index l.range-items)
