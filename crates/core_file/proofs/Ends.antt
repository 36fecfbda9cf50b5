-- Core files past the end of a run.
use Rattle.std.proofs.Common.{◌≡◌, ℕ, ◌≤◌, Bool, refl, ap, sym, ◌∙◌, arith}
use Rattle.std.specs.Prelude.{min, if◌then◌else◌}
use Rattle.std.proofs.lemmas.Bool.{le-leb}
use Rattle.log_model.specs.declared.RunEnd.{RunEnd}
use Rattle.log_model.specs.declared.RunEnd.TheVariants.{Exit, Trap, Limit}
use Rattle.log_model.specs.Logs.{steps, steps_by}
use Rattle.core_file.specs.Note.{trap_signal}
use Rattle.core_file.specs.CoreFile.{signal_after, core_of}
use Rattle.core_file.specs.CoreLaws.{state_at, EndsWithRun}

signal_ends : (end : RunEnd) (t : ℕ) → steps_by end ≤ t → signal_after end t ≡ signal_after end (steps_by end)
signal_ends (Exit at code) t h = refl
signal_ends (Trap at kind pc) t h =
    let late = ap (λ (b : Bool). if b then trap_signal kind else 5) (le-leb at t h) in
    let there = ap (λ (b : Bool). if b then trap_signal kind else 5) (le-leb at at (omega arith)) in
    late ∙ sym there
signal_ends (Limit at) t h = refl

pub ends_with_run : EndsWithRun
ends_with_run s log t h =
    let past : min t (steps log) ≡ min (steps log) (steps log) = omega arith in
    ap (λ (n : ℕ). core_of (signal_after log.end t) (state_at s log n)) past
    ∙ ap (λ (signal : ℕ). core_of signal (state_at s log (min (steps log) (steps log)))) (signal_ends log.end t h)
