use Rattle.std.proofs.Common.{subst, map, List, ℕ, Bor}
use Rattle.report_model.specs.Query.{Query}
use Rattle.jet_model.specs.Contents.{queries_at}
use Rattle.command_parts.specs.Outcome.{seen_by}
use Rattle.jet_commands.specs.Outcome.{AskAlike}
use Rattle.command_parts.specs.Views.{run_of}
use Rattle.jet_commands.specs.Targets.{ToOutput}
use Rattle.jet_commands.specs.Obeying.{given_text}
use Rattle.jet_commands.specs.Answers.{several_answer, IsWorkOf, AreGivenAlike}
use Rattle.jet_commands.proofs.Working.{run-stops, kept-stops, kept-gives}
use Rattle.jet_commands.proofs.answer.queries.Goals as goal

pub returns-in_err-run : goal.returns-in_err-run
returns-in_err-run g c =
    let a = c.args in
    let names : List (List ℕ) = map (λ (name : Bor (List ℕ)). name.now) a.names.now in
    run-stops AskAlike (λ file. queries_at file names) (several_answer a.pipeline.epoch) a.program.now a.log.now names ToOutput
    (g.S.Store.shown a.store.now) (g.S.Store.shown c.open_run.new.store) c.from_residual.result _ c.from_residual.ensures.1 c.in_err-run.ensures.outcome c.in_err-run.ensures.reads

pub returns-in_err-queries : goal.returns-in_err-queries
returns-in_err-queries g c =
    let a = c.args in
    let names : List (List ℕ) = map (λ (name : Bor (List ℕ)). name.now) a.names.now in
    kept-stops AskAlike (λ file. queries_at file names) (several_answer a.pipeline.epoch) a.program.now a.log.now names ToOutput
    (run_of c.in_ok-run.run') (g.S.Store.shown a.store.now) (g.S.Store.shown c.open_run.new.store) (g.S.Store.shown c.open_queries.new.store) c.in_ok-run.ensures.outcome c.in_ok-run.ensures.reads
    c.from_residual-in_err-queries.result _ c.from_residual-in_err-queries.ensures.1 c.in_err-queries.ensures.outcome c.in_err-queries.ensures.reads

pub returns : goal.returns
returns g c =
    let a = c.args in
    let names : List (List ℕ) = map (λ (name : Bor (List ℕ)). name.now) a.names.now in
    kept-gives AskAlike (λ file. queries_at file names) (several_answer a.pipeline.epoch) a.program.now a.log.now names ToOutput
    (run_of c.in_ok-run.run') (g.S.Store.shown a.store.now) (g.S.Store.shown c.open_run.new.store) (g.S.Store.shown c.open_queries.new.store) c.in_ok-run.ensures.outcome c.in_ok-run.ensures.reads
    c.in_ok-queries.queries.items c.reports.result c.in_ok-queries.ensures.outcome c.in_ok-queries.ensures.reads
    (subst (λ (qs : List Query). IsWorkOf (AreGivenAlike a.pipeline.epoch (run_of c.in_ok-run.run') qs) (seen_by given_text c.reports.result)) c.deref.ensures.value c.reports.ensures.answer) c.reports.ensures.goes
