use Rattle.std.proofs.Common.{Err}
use Rattle.std.proofs.lemmas.Result.{IfOk-weaker, IfErr-weaker, err_from_is_err_and}
use Rattle.order_gateway.specs.Answer.{IsBenchAnswer}
use Rattle.jet_commands.proofs.Benching.{checked-is_job, fitted-stops, recording-stops}
use Rattle.jet_commands.proofs.bench.workload_job.Goals as goal

pub returns-clause-ok : goal.returns-clause-ok
returns-clause-ok c =
    IfOk-weaker c.fitted.result _ _ (λ job checked. checked-is_job c.args.seed c.args.steps c.in_ok-recording.recording.program.bytes.items c.in_ok-recording.recording.program.image c.in_ok-recording.recording.log job c.in_ok-recording.ensures.image c.in_ok-recording.ensures.log c.in_ok-recording.ensures.short checked)
    c.fitted.ensures.ok

pub returns-clause-err : goal.returns-clause-err
returns-clause-err c =
    IfErr-weaker c.fitted.result _ _ (λ r stops epoch.
    fitted-stops (IsBenchAnswer c.args.seed c.args.steps epoch (Err r)) c.in_ok-recording.recording.program.bytes.items c.in_ok-recording.recording.program.image c.in_ok-recording.recording.log r c.in_ok-recording.ensures.program c.in_ok-recording.ensures.image c.in_ok-recording.ensures.log.recorded.fits stops)
    c.fitted.ensures.err

pub returns-in_err-recording-clause-err : goal.returns-in_err-recording-clause-err
returns-in_err-recording-clause-err c =
    let p = err_from_is_err_and c.from_residual.result c.from_residual.ensures.1 in
    rw p.1 (λ epoch. recording-stops c.args.seed c.args.steps epoch c.in_err-recording.field-0.0 _ c.in_err-recording.ensures.cause p.2)
