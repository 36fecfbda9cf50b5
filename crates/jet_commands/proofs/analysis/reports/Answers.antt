use Rattle.std.proofs.Common.{rules, Err}
use Rattle.std.proofs.lemmas.Result.{IfOk-weaker}
use Rattle.replayer.specs.Jobs.{trace_of}
use Rattle.command_parts.specs.Views.{run_of}
use Rattle.jet_commands.specs.Answers.{IsWorkOf, AreGivenAlike}
use Rattle.jet_commands.proofs.Working.{rules-stop, reports-stop, reports-come}
use Rattle.jet_commands.proofs.analysis.reports.Goals as goal

pub returns-in_err-union-clause-answer : goal.returns-in_err-union-clause-answer
returns-in_err-union-clause-answer g c =
    let refused : IsWorkOf (AreGivenAlike c.args.pipeline.epoch (run_of c.args.run) c.args.queries.now) (Err c.in_err-union.field-0.0) =
    rules-stop c.args.pipeline.epoch (run_of c.args.run) c.args.queries.now c.in_err-union.field-0.0 c.in_err-union.ensures.err in
    search rules

pub returns-in_err-_job-clause-answer : goal.returns-in_err-_job-clause-answer
returns-in_err-_job-clause-answer g c =
    let refused : IsWorkOf (AreGivenAlike c.args.pipeline.epoch (run_of c.args.run) c.args.queries.now) (Err c.in_err-_job.field-0.0) =
    reports-stop c.args.pipeline.epoch (run_of c.args.run) c.args.queries.now c.in_err-_job.field-0.0 c.in_ok-union.ensures.ok.one_rule c.in_err-_job.ensures.err in
    search rules

pub returns-clause-answer : goal.returns-clause-answer
returns-clause-answer g c =
    let job = c.in_ok-_job._job in
    reports-come c.args.pipeline.epoch (run_of c.args.run) c.args.queries.now job c.several.result c.in_ok-union.ensures.ok.one_rule c.in_ok-_job.ensures.checked c.in_ok-_job.ensures.few
    (IfOk-weaker c.several.result _ _ (λ given told. told c.in_ok-union.union (trace_of job) c.in_ok-union.ensures.ok c.in_ok-_job.ensures.report) c.several.ensures.text) c.several.ensures.err
