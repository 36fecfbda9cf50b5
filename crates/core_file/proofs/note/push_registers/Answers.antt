use Rattle.std.proofs.Common.{◌≡◌, ℕ, ◌-◌, ◌++◌, ap, ◌∙◌, arith}
use Rattle.log_model.specs.Logs.{word32}
use Rattle.isa.specs.Machine.{reg}
use Rattle.replayer.specs.Positions.{state_at}
use Rattle.core_file.proofs.Registers.{first_registers, more_of}
use Rattle.core_file.proofs.note.push_registers.Goals as goal

pub loop-number-preserved : goal.loop-number-preserved
loop-number-preserved c =
    let there = state_at c.args.cursor.now in
    let number = c.loop-number.number in
    let value : c.register.result ≡ reg there number = c.register.ensures in
    c.in_ok-push_word-2.ensures
    ∙ ap (λ (v : ℕ). c.loop-number.file.items ++ word32 v) value
    ∙ more_of there number c.args.file.now.items c.loop-number.file.items (omega arith) c.loop-number.invariant

pub returns : goal.returns
returns c =
    let all : c.loop-number.number ≡ 32 = omega arith in
    c.loop-number.invariant ∙ ap (λ (n : ℕ). c.args.file.now.items ++ first_registers (state_at c.args.cursor.now) (n - 1)) all
