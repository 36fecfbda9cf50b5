use Rattle.std.proofs.Common.{[], ◌∷◌, None}
use Rattle.report_model.specs.Query.{Alike}
use Rattle.jet_model.specs.Contents.{query_at}
use Rattle.jet_model.specs.Answer.{analysed_answer}
use Rattle.command_parts.specs.Views.{run_of}
use Rattle.jet_commands.specs.Targets.{ToOutput}
use Rattle.jet_commands.specs.Answers.{decisions_by}
use Rattle.jet_commands.proofs.Working.{run-stops, kept-stops, kept-gives}
use Rattle.jet_commands.proofs.answer.decisions.Goals as goal

pub returns-in_err-run : goal.returns-in_err-run
returns-in_err-run g c =
    let a = c.args in
    run-stops Alike (λ file. query_at file a.query.now) (λ run q. analysed_answer None run (decisions_by q)) a.program.now a.log.now (a.query.now ∷ []) ToOutput
    (g.S.Store.shown a.store.now) (g.S.Store.shown c.open_run.new.store) c.from_residual.result _ c.from_residual.ensures.1 c.in_err-run.ensures.outcome c.in_err-run.ensures.reads

pub returns-in_err-query : goal.returns-in_err-query
returns-in_err-query g c =
    let a = c.args in
    kept-stops Alike (λ file. query_at file a.query.now) (λ run q. analysed_answer None run (decisions_by q)) a.program.now a.log.now (a.query.now ∷ []) ToOutput
    (run_of c.in_ok-run.run') (g.S.Store.shown a.store.now) (g.S.Store.shown c.open_run.new.store) (g.S.Store.shown c.open_query.new.store) c.in_ok-run.ensures.outcome c.in_ok-run.ensures.reads
    c.from_residual-in_err-query.result _ c.from_residual-in_err-query.ensures.1 c.in_err-query.ensures.outcome c.open_query.ensures.reads

pub returns : goal.returns
returns g c =
    let a = c.args in
    kept-gives Alike (λ file. query_at file a.query.now) (λ run q. analysed_answer None run (decisions_by q)) a.program.now a.log.now (a.query.now ∷ []) ToOutput
    (run_of c.in_ok-run.run') (g.S.Store.shown a.store.now) (g.S.Store.shown c.open_run.new.store) (g.S.Store.shown c.open_query.new.store) c.in_ok-run.ensures.outcome c.in_ok-run.ensures.reads
    c.in_ok-query.query c.decided.result c.in_ok-query.ensures.outcome c.open_query.ensures.reads c.decided.ensures.answer c.decided.ensures.goes
