use Rattle.std.proofs.lemmas.Result.{err_from_is_err_and}
use Rattle.command_parts.specs.Views.{run_of}
use Rattle.jet_commands.proofs.Working.{misfit-cut, cutting-stops}
use Rattle.jet_commands.proofs.analysis.analysed_run.Goals as goal

pub returns-in_err-found-in-Ok-clause-err : goal.returns-in_err-found-in-Ok-clause-err
returns-in_err-found-in-Ok-clause-err g c =
    let p = err_from_is_err_and c.from_residual.result c.from_residual.ensures.1 in
    rw p.1 (misfit-cut c.args.pipeline.epoch (run_of c.args.run) c.in_err-found-in-Ok.field-0.0 _ c.in_err-found-in-Ok.ensures.fault p.2)

pub returns-in_ok-_job-in-Err-clause-err : goal.returns-in_ok-_job-in-Err-clause-err
returns-in_ok-_job-in-Err-clause-err g c =
    cutting-stops c.args.pipeline.epoch (run_of c.args.run) c.in_ok-_job-in-Err._job c.in-Err.refusal c.in_ok-_job-in-Err.ensures.ok c.in-Err.ensures.check
