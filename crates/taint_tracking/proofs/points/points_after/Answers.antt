use Rattle.std.proofs.Common.{rules, ◌≤◌, ◌-◌, drop, length, arith, ◌∙◌}
use Rattle.std.proofs.lemmas.List.{take_all, length-drop}
use Rattle.std.proofs.lemmas.List.Sorted.{IsPartitionPoint-from_clause}
use Rattle.report_model.proofs.Due.{passed_by, partitioned, after_passed}
use Rattle.taint_tracking.proofs.points.points_after.Goals as goal

pub returns : goal.returns
returns c =
    let points = c.args.points.now in
    let time = c.args.time in
    let passed = c.partition_point-passed.result in
    let long : length (drop passed points) ≤ length points - passed = omega (arith, length-drop passed points) in
    take_all (length points - passed) (drop passed points) long
    ∙ after_passed time points passed (IsPartitionPoint-from_clause (passed_by time) points passed c.partition_point-passed.ensures.partitioned (partitioned time points c.requires) (λ a r q k. search rules))
