use Rattle.std.proofs.Common.{◌≡◌, drop}
use Rattle.std.specs.Prelude.{max}
use Rattle.run_beginning.specs.Need.{steps_for_points}
use Rattle.run_beginning.proofs.need.steps_for_points.Given as goal

-- the points that are left may need more
abbrev pub invariant-loop-point : goal.invariant-loop-point
invariant-loop-point l = max l.most (steps_for_points l.steps (drop l.point-index l.points)) ≡ steps_for_points l.steps l.points
