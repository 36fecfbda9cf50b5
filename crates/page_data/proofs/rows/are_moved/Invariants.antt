use Rattle.std.proofs.Common.{◌≡◌, map, take}
use Rattle.page_data.specs.Moved.{range_moved}
use Rattle.page_data.proofs.rows.are_moved.Given as goal

-- the ranges so far are moved
abbrev pub invariant-loop-i : goal.invariant-loop-i
invariant-loop-i l = take l.i l.second ≡ map (range_moved l.by) (take l.i l.first)
