use Rattle.std.proofs.Common.{sym, ◌∙◌}
use Rattle.std.proofs.lemmas.Result.{err_from_is_err_and}
use Rattle.command_parts.specs.Views.{run_of}
use Rattle.jet_commands.specs.Answers.{format_text}
use Rattle.jet_commands.specs.Obeying.{given_text}
use Rattle.jet_commands.proofs.Working.{given-stops, given-gives, same_format}
use Rattle.jet_commands.proofs.analysis.analysed.Goals as goal

pub returns-in_err-_job-clause-answer : goal.returns-in_err-_job-clause-answer
returns-in_err-_job-clause-answer g c =
    let p = err_from_is_err_and c.from_residual.result c.from_residual.ensures.1 in
    rw (p.1, p.2) (given-stops (format_text c.args.format) c.args.pipeline.epoch (run_of c.args.run) c.args.query.now _ c.in_err-_job.ensures.err)

pub returns-in-Some-clause-answer : goal.returns-in-Some-clause-answer
returns-in-Some-clause-answer g c =
    let job = c.in_ok-_job._job in
    given-gives (format_text c.args.format) c.args.pipeline.epoch (run_of c.args.run) c.args.query.now job c.in_ok-_job.text.items (same_format c.alike_have_same_data.ensures c.args.format) c.in_ok-_job.ensures.checked
    c.in_ok-_job.ensures.few (c.in_ok-_job.ensures.text ∙ sym (c.in-Some.ensures.told job.start job.log))

pub returns-in_err-job-clause-answer : goal.returns-in_err-job-clause-answer
returns-in_err-job-clause-answer g c =
    let p = err_from_is_err_and c.from_residual-in_err-job.result c.from_residual-in_err-job.ensures.1 in
    rw (p.1, p.2) (given-stops (format_text c.args.format) c.args.pipeline.epoch (run_of c.args.run) c.args.query.now _ c.in_err-job.ensures.err)

pub returns-clause-answer : goal.returns-clause-answer
returns-clause-answer g c =
    given-gives (format_text c.args.format) c.args.pipeline.epoch (run_of c.args.run) c.args.query.now c.in_ok-job.job (given_text c.in_ok-given.given) (same_format c.alike_have_same_data.ensures c.args.format)
    c.in_ok-job.ensures.checked c.in_ok-job.ensures.few c.in_ok-given.ensures.text
