use Rattle.std.proofs.Common.{[], ◌∷◌, List, ℕ, Result, Ok, Err}
use Rattle.std.proofs.lemmas.Result.{err_from_is_err_and}
use Rattle.outer_io.proofs.ReadsLemmas.{reads-then, reads-stops, reads-less}
use Rattle.log_model.specs.Logs.{Log}
use Rattle.jet_refusal.specs.declared.refusal.Refusal.{Refusal}
use Rattle.jet_model.specs.Outcomes.{and_then}
use Rattle.jet_model.specs.Contents.{Contents, Program, Run, program_at, log_at}
use Rattle.command_parts.specs.Views.{program_of}
use Rattle.command_parts.proofs.Composing.{outcome_of-stops, outcome_of-then}
use Rattle.command_parts.proofs.opening.open_run.Goals as goal

-- the run of a program and a log
abbrev log_with : Program → Log → Result Run Refusal
log_with program log = Ok (record { program = program; log = log })

-- the run of a program and the log of this name
abbrev run_with : List ℕ → Program → Contents → Result Run Refusal
run_with name program file = and_then (log_at file name) (log_with program)

pub returns-in_err-program : goal.returns-in_err-program
returns-in_err-program g c =
    let p = err_from_is_err_and c.from_residual.result c.from_residual.ensures.1 in
    rw (p.1, p.2) (record {
      outcome = outcome_of-stops (λ file. program_at file c.args.program.now) (run_with c.args.log.now) (g.S.Store.shown c.args.store.now) (g.S.Store.shown c.open_program.new.store) _ c.in_err-program.ensures.outcome;
      short = tt;
      reads = reads-stops (c.args.log.now ∷ []) c.in_err-program.ensures.reads;
    })

pub returns-in_err-log : goal.returns-in_err-log
returns-in_err-log g c =
    let between = g.S.Store.shown c.open_program.new.store in
    let after = g.S.Store.shown c.open_log.new.store in
    let log = c.args.log.now in
    let program = program_of c.in_ok-program.program in
    let p = err_from_is_err_and c.from_residual-in_err-log.result c.from_residual-in_err-log.ensures.1 in
    rw (p.1, p.2) (record {
      outcome = outcome_of-then (λ file. program_at file c.args.program.now) (run_with log) program (g.S.Store.shown c.args.store.now) between after c.in_ok-program.ensures.outcome c.in_ok-program.ensures.reads c.in_err-log.ensures.reads
          (Err c.in_err-log.field-0.0) (outcome_of-stops (λ file. log_at file log) (λ l file. log_with program l) between after _ c.in_err-log.ensures.outcome);
      short = tt;
      reads = reads-less _ (reads-then c.in_ok-program.ensures.reads c.in_err-log.ensures.reads);
    })

pub returns-clause-reads : goal.returns-clause-reads
returns-clause-reads g c = reads-then c.in_ok-program.ensures.reads c.in_ok-log.ensures.reads
