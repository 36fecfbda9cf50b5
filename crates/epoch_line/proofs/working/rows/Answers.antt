use Rattle.std.proofs.Common.{◌≡◌, List, subst}
use Rattle.std.specs.Prelude.{IfOk}
use Rattle.report_model.specs.Rows.{Row}
use Rattle.epoch_analysis.proofs.Runs.{of_run}
use Rattle.epoch_line.proofs.working.rows.Goals as goal

pub join-requires : goal.join-requires
join-requires g c =
    (_, of_run c.args.checkpoints.now.job c.args.query.now c.args.cuts c.in_ok-summaries-in-ByOneLog.summaries.items c.points-points.ensures.located c.requires.cutting c.in_ok-summaries-in-ByOneLog.ensures)

pub returns-in_ok-sinks-in-ByOneLog : goal.returns-in_ok-sinks-in-ByOneLog
returns-in_ok-sinks-in-ByOneLog g c =
    let all = of_run c.args.checkpoints.now.job c.args.query.now c.args.cuts c.in_ok-summaries-in-ByOneLog.summaries.items c.points-points.ensures.located c.requires.cutting c.in_ok-summaries-in-ByOneLog.ensures in
    subst (λ (rows : List Row). IfOk c.rows_of_sinks.result (λ sets. sets ≡ rows)) (c.in_ok-sinks-in-ByOneLog.ensures _ all) c.rows_of_sinks.ensures
