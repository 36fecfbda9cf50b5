use Rattle.std.proofs.Common.{Err}
use Rattle.outer_io.proofs.ReadsLemmas.{reads-less}
use Rattle.jet_model.specs.Contents.{Contents, run_at}
use Rattle.jet_model.specs.Answer.{fitting_start}
use Rattle.command_parts.specs.Outcome.{seen_by}
use Rattle.command_parts.specs.Views.{run_of}
use Rattle.jet_commands.specs.Answers.{making_answer}
use Rattle.jet_commands.specs.Obeying.{given_text}
use Rattle.jet_commands.proofs.Giving.{passes}
use Rattle.command_parts.proofs.Composing.{outcome_of-stops, outcome_of-work, work-stops}
use Rattle.jet_commands.proofs.Working.{making-gives}
use Rattle.jet_commands.proofs.answer.run_product.Goals as goal

pub returns-in_err-run : goal.returns-in_err-run
returns-in_err-run g c =
    let a = c.args in
    passes c.from_residual.result _ c.from_residual.ensures.1
    (outcome_of-stops (λ (file : Contents). run_at file a.program.now a.log.now) (λ run file. making_answer a.making run) (g.S.Store.shown a.store.now) (g.S.Store.shown c.open_run.new.store) _ c.in_err-run.ensures.outcome)
    c.in_err-run.ensures.reads

pub returns-in_err-job : goal.returns-in_err-job
returns-in_err-job g c =
    let a = c.args in
    let run = run_of c.in_ok-run.run' in
    passes c.from_residual-in_err-job.result _ c.from_residual-in_err-job.ensures.1
    (outcome_of-work (λ (file : Contents). run_at file a.program.now a.log.now) (making_answer a.making) run (g.S.Store.shown a.store.now) (g.S.Store.shown c.open_run.new.store) c.in_ok-run.ensures.outcome (Err c.in_err-job.field-0.0)
    (work-stops (fitting_start run.program run.log) _ c.in_err-job.field-0.0 c.in_err-job.ensures.err)) (reads-less _ c.in_ok-run.ensures.reads)

pub returns : goal.returns
returns g c =
    let a = c.args in
    let run = run_of c.in_ok-run.run' in
    let outcome = seen_by given_text c.made.result in
    record {
      answer = outcome_of-work (λ (file : Contents). run_at file a.program.now a.log.now) (making_answer a.making) run (g.S.Store.shown a.store.now) (g.S.Store.shown c.open_run.new.store) c.in_ok-run.ensures.outcome outcome
          (making-gives a.making run c.in_ok-job.job outcome c.in_ok-job.ensures.ok c.made.ensures.answer);
      goes = c.made.ensures.goes;
      reads = reads-less _ c.in_ok-run.ensures.reads;
    }
