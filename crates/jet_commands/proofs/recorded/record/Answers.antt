use Rattle.std.proofs.Common.{subst, map, true, false, ℕ, List, Bor}
use Rattle.call_record.specs.Sources.{contents}
use Rattle.outer_io.proofs.TellsLemmas.{tells-nothing}
use Rattle.outer_io.proofs.ReadsLemmas.{reads-then, reads-stops, reads-less}
use Rattle.std.specs.Global.{Vec}
use Rattle.command_parts.specs.Outcome.{seen_by}
use Rattle.command_parts.specs.Views.{program_of}
use Rattle.jet_commands.specs.Answers.{IsCapture, IsWorkOf, limits_of}
use Rattle.jet_commands.specs.Obeying.{given_text}
use Rattle.jet_commands.proofs.Giving.{passes, unasked}
use Rattle.jet_commands.proofs.Recording.{refused-program, refused-inputs, recorded}
use Rattle.jet_commands.proofs.recorded.record.Goals as goal

pub returns-in_err-program : goal.returns-in_err-program
returns-in_err-program g c =
    let a = c.args in
    let names : List (List ℕ) = map (λ (name : Bor (List ℕ)). name.now) a.inputs.now in
    let heard = g.K.Clock.answers a.clock.now in
    record {
      gives = passes c.from_residual.result _ c.from_residual.ensures.1
          (refused-program a.program.now names (limits_of a.limits.pages a.limits.piece a.limits.steps) heard heard (g.S.Store.shown a.store.now) (g.S.Store.shown c.open_program.new.store) _ (tells-nothing heard) c.in_err-program.ensures.outcome)
          (reads-stops names c.in_err-program.ensures.reads);
      unasked = unasked heard c.from_residual.result;
    }

pub returns-in_err-inputs : goal.returns-in_err-inputs
returns-in_err-inputs g c =
    let a = c.args in
    let names : List (List ℕ) = map (λ (name : Bor (List ℕ)). name.now) a.inputs.now in
    let heard = g.K.Clock.answers a.clock.now in
    record {
      gives = passes c.from_residual-in_err-inputs.result _ c.from_residual-in_err-inputs.ensures.1
          (refused-inputs a.program.now names (limits_of a.limits.pages a.limits.piece a.limits.steps) heard heard (program_of c.in_ok-program.program) (g.S.Store.shown a.store.now) (g.S.Store.shown c.open_program.new.store)
          (g.S.Store.shown c.open_inputs.new.store) c.in_ok-program.ensures.outcome c.in_ok-program.ensures.reads false c.in_err-inputs.ensures.reads _ (tells-nothing heard) c.in_err-inputs.ensures.outcome)
          (reads-then c.in_ok-program.ensures.reads c.in_err-inputs.ensures.reads);
      unasked = unasked heard c.from_residual-in_err-inputs.result;
    }

pub returns-clause-gives : goal.returns-clause-gives
returns-clause-gives g c =
    let a = c.args in
    let names : List (List ℕ) = map (λ (name : Bor (List ℕ)). name.now) a.inputs.now in
    let limits = limits_of a.limits.pages a.limits.piece a.limits.steps in
    let heard = g.K.Clock.answers a.clock.now in
    let after = g.K.Clock.answers c.log_file.new.clock in
    let program = program_of c.in_ok-program.program in
    let outcome = seen_by given_text c.log_file.result in
    record {
      answer = recorded a.program.now names limits heard after program (g.S.Store.shown a.store.now) (g.S.Store.shown c.open_program.new.store) (g.S.Store.shown c.open_inputs.new.store) c.in_ok-program.ensures.outcome c.in_ok-program.ensures.reads true c.in_ok-inputs.ensures.reads (contents c.in_ok-inputs.inputs.items) c.in_ok-inputs.ensures.outcome outcome
          (subst (λ (vs : List (Vec ℕ)). IsWorkOf (IsCapture (record { program = program; inputs = contents vs }) limits heard after) outcome) c.deref.ensures.value c.log_file.ensures.answer);
      goes = c.log_file.ensures.goes;
      reads = reads-less _ (reads-then c.in_ok-program.ensures.reads c.in_ok-inputs.ensures.reads);
    }
