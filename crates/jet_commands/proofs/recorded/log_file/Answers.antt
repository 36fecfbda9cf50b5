use Rattle.std.proofs.Common.{subst, List, ℕ}
use Rattle.std.proofs.lemmas.Result.{err_from_is_err_and}
use Rattle.elf_model.specs.Image.{image}
use Rattle.no_memory.specs.Faults.{IsCausedBy}
use Rattle.call_record.specs.Captures.{IsCaptured, IsCause, setting_of as captured_setting}
use Rattle.call_record.specs.Sources.{contents}
use Rattle.jet_model.specs.Answer.{Source, Limits}
use Rattle.command_parts.specs.Views.{program_of}
use Rattle.jet_commands.specs.Answers.{limits_of}
use Rattle.jet_commands.proofs.Recording.{captured-text, not_captured, not_read}
use Rattle.jet_commands.proofs.recorded.log_file.Goals as goal

pub returns-clause-answer : goal.returns-clause-answer
returns-clause-answer g c =
    let a = c.args in
    let source : Source = record { program = program_of a.program.now; inputs = contents a.inputs.now } in
    let limits : Limits = limits_of a.limits.pages a.limits.piece a.limits.steps in
    let heard = g.K.Clock.answers a.clock.now in
    let after = g.K.Clock.answers c.capture.new.clock in
    let captured = subst (λ (bytes : List ℕ). IsCaptured (captured_setting bytes a.limits.pages a.inputs.now a.limits.piece a.limits.steps) heard after c.in_ok-log.log) c.deref.ensures.value c.in_ok-log.ensures.captured in
    captured-text source limits heard after c.args.program.now.loads c.in_ok-log.log _ captured c.in_ok-log.ensures.small c.in_ok-content.ensures

pub returns-in_err-log : goal.returns-in_err-log
returns-in_err-log g c =
    let a = c.args in
    let source : Source = record { program = program_of a.program.now; inputs = contents a.inputs.now } in
    let limits : Limits = limits_of a.limits.pages a.limits.piece a.limits.steps in
    let heard = g.K.Clock.answers a.clock.now in
    let after = g.K.Clock.answers c.capture.new.clock in
    let fault = c.in_err-log.field-0.0 in
    let cause = subst (λ (bytes : List ℕ). IsCausedBy (IsCause (captured_setting bytes a.limits.pages a.inputs.now a.limits.piece a.limits.steps) a.program.now.image heard after) fault) c.deref.ensures.value c.in_err-log.ensures.cause in
    let p = err_from_is_err_and c.from_residual.result c.from_residual.ensures.1 in
    rw p.1 (record {
      answer = not_captured source limits heard after c.args.program.now.loads fault _ cause p.2;
      goes = tt;
      unasked = not_read source limits heard after c.args.program.now.loads fault _ cause p.2;
    })
