use Rattle.std.proofs.Common.{arith}
use Rattle.epoch_layout.specs.Layouts.{CutRun}
use Rattle.epoch_line.proofs.Numbers.{layout_length, layout_numbers, layout_job, run_of}
use Rattle.epoch_line.proofs.working.work.Goals as goal

pub work_in_groups-requires-clause-numbers : goal.work_in_groups-requires-clause-numbers
work_in_groups-requires-clause-numbers g c κs within = layout_numbers _ _ _ c.in_ok-nodes.ensures

pub work_in_groups-requires-clause-count : goal.work_in_groups-requires-clause-count
work_in_groups-requires-clause-count g c κs within =
    let n = layout_length _ _ _ c.in_ok-nodes.ensures in
    let count = c.count-count.ensures in
    (omega (arith, n, count.is, count.in_range), omega (arith, n, count.is, count.in_range))

pub work_in_groups-requires-clause-one_job : goal.work_in_groups-requires-clause-one_job
work_in_groups-requires-clause-one_job g c κs within = layout_job _ _ _ c.in_ok-nodes.ensures

pub returns : goal.returns
returns g c =
    let run : CutRun = record { job = c.args.checkpoints.now.job; query = c.args.query.now; cuts = c.args.cuts } in
    c.collect.ensures run (run_of c.args.parallelism.link run _ _ c.in_ok-nodes.ensures c.in_ok-done.ensures.led)
