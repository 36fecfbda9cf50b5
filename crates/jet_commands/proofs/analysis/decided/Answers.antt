use Rattle.std.proofs.Common.{refl, None}
use Rattle.std.proofs.lemmas.Result.{err_from_is_err_and}
use Rattle.command_parts.specs.Views.{run_of}
use Rattle.jet_commands.specs.Answers.{decisions_by}
use Rattle.jet_commands.proofs.Working.{misfit-cut, given-stops, given-gives, same_decisions}
use Rattle.jet_commands.proofs.analysis.decided.Goals as goal

pub returns-in_err-_job-clause-answer : goal.returns-in_err-_job-clause-answer
returns-in_err-_job-clause-answer c =
    let p = err_from_is_err_and c.from_residual.result c.from_residual.ensures.1 in
    rw p.1 (given-stops decisions_by None (run_of c.args.run) c.args.query.now _ (misfit-cut None (run_of c.args.run) c.in_err-_job.field-0.0 _ c.in_err-_job.ensures.fault p.2))

pub returns-clause-answer : goal.returns-clause-answer
returns-clause-answer c =
    given-gives decisions_by None (run_of c.args.run) c.args.query.now c.in_ok-_job._job c.in_ok-_job.text.items same_decisions c.in_ok-_job.ensures.checked refl c.in_ok-_job.ensures.text
