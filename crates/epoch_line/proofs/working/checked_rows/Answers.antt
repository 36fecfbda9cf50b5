use Rattle.std.proofs.Common.{◌∙◌, sym, subst}
use Rattle.log_model.specs.Logs.{Log, steps}
use Rattle.epoch_model.specs.Cutting.{IsCutting}
use Rattle.summary_join.specs.First.{found_of}
use Rattle.epoch_line.proofs.After.{of_run_after}
use Rattle.epoch_line.proofs.working.checked_rows.Goals as goal

pub join_after-requires : goal.join_after-requires
join_after-requires g c =
    let found = c.in_ok-job.ensures in
    let cutting = subst (λ (log : Log). IsCutting (steps log) c.args.cuts) (sym found.checked.same_log) c.requires.cutting in
    (_, of_run_after c.in_ok-job.job c.args.query.now c.args.cuts (found_of c.in_ok-job.first) c.in_ok-job.later.items c.points-points.ensures.located cutting found.found)

pub returns-clause-rows : goal.returns-clause-rows
returns-clause-rows g c =
    let found = c.in_ok-job.ensures in
    let cutting = subst (λ (log : Log). IsCutting (steps log) c.args.cuts) (sym found.checked.same_log) c.requires.cutting in
    c.in_ok-rows.ensures
    ∙ c.in_ok-sinks.ensures _ (of_run_after c.in_ok-job.job c.args.query.now c.args.cuts (found_of c.in_ok-job.first) c.in_ok-job.later.items c.points-points.ensures.located cutting found.found)
