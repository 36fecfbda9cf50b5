use Rattle.std.proofs.Common.{◌≡◌, ◌++◌, map}
use Rattle.std.specs.List.{range_with_len}
use Rattle.report_model.specs.Grammar.{lane_point}
use Rattle.query_lang.proofs.points.add_register.Given as goal

abbrev pub invariant-loop-lane : goal.invariant-loop-lane
invariant-loop-lane l = record {
  added : l.points.items ≡ l.fn.points.items ++ map (lane_point l.number l.time) (range_with_len 0 l.lane);
}
