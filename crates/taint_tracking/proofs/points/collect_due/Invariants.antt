use Rattle.std.proofs.Common.{◌≡◌, ◌+◌, ◌-◌, ◌≤◌, ◌++◌, map, length, take, drop}
use Rattle.report_model.specs.Rows.{point_sink, at_time, from_time}
use Rattle.taint_tracking.specs.Sinks.{Notes}
use Rattle.taint_tracking.proofs.points.collect_due.Given as goal

abbrev pub invariant-loop-due : goal.invariant-loop-due
invariant-loop-due l = record {
  within : l.due ≤ length l.points;
  noted : Notes l.places (map point_sink (take l.due l.points)) l.initial.sinks.items l.sinks.items;
  turn : at_time l.time l.points ≡ take l.due l.points ++ at_time l.time (drop l.due l.points);
  later : from_time (l.time + 1) l.points ≡ from_time (l.time + 1) (drop l.due l.points);
}

abbrev pub decreases-loop-due : goal.decreases-loop-due
decreases-loop-due l = length l.points - l.due
