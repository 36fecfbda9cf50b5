use Rattle.std.proofs.Common.{◌≡◌, ◌≤◌, ◌^◌, ◌∙◌, sym, ap, ap₂, subst, length, List, ℕ, [], ◌∷◌, slice_index_or, true, false, arith}
use Rattle.std.specs.Prelude.{None, is_some}
use Rattle.elf_model.specs.Image.{image}
use Rattle.elf_model.specs.Window.{start_of}
use Rattle.record_model.specs.Recorded.{Setting}
use Rattle.call_record.specs.Captures.{IsCaptured}
use Rattle.order_gateway.proofs.Guests.{window-holds_guest}
use Rattle.order_gateway.specs.StoppedClock.{told_zeros}
use Rattle.order_gateway.specs.declared.clock.StoppedClock.{StoppedClock}
use Rattle.order_gateway.proofs.Zeros.{captured-is_log}
use Rattle.order_gateway.proofs.Generated.{length-input}
use Rattle.order_gateway.proofs.recording.recorded.Goals as goal

-- what the guest's run is captured by
abbrev setting : List ℕ → List ℕ → ℕ → Setting
setting program input steps = record { program = program; pages = 4; inputs = input ∷ []; piece = 16777216; steps = steps }

pub capture-requires-clause-image : goal.capture-requires-clause-image
capture-requires-clause-image c = ap image c.deref.ensures.value ∙ c.in_ok-program.program.loads

pub capture-requires-clause-short : goal.capture-requires-clause-short
capture-requires-clause-short c = λ k d inside.
    let first : 0 ≡ k = omega arith in
    let short = subst (λ xs. length xs ≤ 2 ^ 26) (sym c.in_ok-input.ensures) (length-input c.args.seed c.args.steps c.requires) in
    subst (λ i. length (slice_index_or (c.in_ok-input.field-0 ∷ []) i d).items ≤ 2 ^ 26) first short

pub unreachable-requires : goal.unreachable-requires
unreachable-requires c =
    let cause = rw (c.in-Err-At-Window.field-0-is, c.in-Err-At-Window.field-0-0-is) at c.in-Err-At-Window.ensures.cause in
    let none : start_of c.in_ok-program.program.image 4 ≡ None = cause.1 in
    let some : is_some (start_of c.in_ok-program.program.image 4) ≡ true = subst (λ im. is_some (start_of im 4) ≡ true) (sym c.in_ok-program.ensures.image) window-holds_guest in
    let false_is_true : false ≡ true = sym (ap is_some none) ∙ some in
    cc

pub returns-in-Ok-clause-log : goal.returns-in-Ok-clause-log
returns-in-Ok-clause-log c =
    let same = ap₂ (λ (program input : List ℕ). setting program input c.args.steps) (c.deref.ensures.value ∙ c.in_ok-program.ensures.file) c.in_ok-input.ensures in
    let captured = subst (λ (k : StoppedClock). IsCaptured (setting c.deref.result.now c.in_ok-input.field-0.items c.args.steps) (told_zeros k) (told_zeros c.capture.new.clock) c.in-Ok.log) c.new-clock.ensures c.in-Ok.ensures.captured in
    captured-is_log c.args.seed c.args.steps _ c.capture.new.clock c.in-Ok.log same c.in_ok-counted-in-Ok.ensures captured

pub returns-in-Err-At-LogTooLong-clause-cause : goal.returns-in-Err-At-LogTooLong-clause-cause
returns-in-Err-At-LogTooLong-clause-cause c =
    let cause = rw (c.in-Err-At-LogTooLong.field-0-is, c.in-Err-At-LogTooLong.field-0-0-is) at c.in-Err-At-LogTooLong.ensures.cause in
    let same = ap₂ (λ (program input : List ℕ). setting program input c.args.steps) (c.deref.ensures.value ∙ c.in_ok-program.ensures.file) c.in_ok-input.ensures in
    let captured = subst (λ (k : StoppedClock). IsCaptured (setting c.deref.result.now c.in_ok-input.field-0.items c.args.steps) (told_zeros k) (told_zeros c.capture.new.clock) cause.log) c.new-clock.ensures cause.captured in
    record {
      log = cause.log;
      is_log = captured-is_log c.args.seed c.args.steps _ c.capture.new.clock cause.log same c.in_ok-counted-in-Err-At-LogTooLong.ensures captured;
      size_is = cause.size_is;
      over = cause.over;
    }
