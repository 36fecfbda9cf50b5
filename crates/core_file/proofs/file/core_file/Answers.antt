use Rattle.std.proofs.Common.{◌≡◌, ℕ, List, IfOk, ap, ◌∙◌, subst}
use Rattle.std.specs.Prelude.{min}
use Rattle.log_model.specs.declared.RunEnd.{RunEnd}
use Rattle.log_model.specs.Logs.{Log, steps}
use Rattle.replayer.specs.Positions.{CursorAt, state_at}
use Rattle.core_file.specs.CoreFile.{signal_after, core_of}
use Rattle.core_file.proofs.file.core_file.Goals as goal

pub returns : goal.returns
returns c =
    let job = c.args.job.now in
    let time = c.args.time in
    let within : c.min.result ≡ min time (steps job.log) = c.min.ensures ∙ ap (min time) c.steps.ensures in
    let signal : c.signal_after.result ≡ signal_after job.log.end time =
    c.signal_after.ensures ∙ ap (λ (end : RunEnd). signal_after end time) (c.end.ensures ∙ ap (λ (log : Log). log.end) c.log.ensures) in
    let same =
    ap (λ (k : ℕ). core_of k (state_at c.in_ok-cursor.cursor)) signal
    ∙ ap (λ (a : CursorAt). core_of (signal_after job.log.end time) (state_at a)) c.in_ok-cursor.ensures
    ∙ ap (λ (n : ℕ). core_of (signal_after job.log.end time) (state_at (record { job = job; time = n }))) within in
    subst (λ (bytes : List ℕ). IfOk c.file_of.result (λ file. file.items ≡ bytes)) same c.file_of.ensures
