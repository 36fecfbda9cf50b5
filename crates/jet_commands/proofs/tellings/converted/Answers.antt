use Rattle.std.proofs.Common.{◌≡◌, ◌∙◌, ap, sym, subst, arith, ◌≤◌, ◌<◌, ◌^◌, ℕ, length, Ok, Err}
use Rattle.log_model.specs.declared.Version.TheVariants.{Two}
use Rattle.log_model.specs.Logs.{Log, CanHold, log_text}
use Rattle.replay_model.proofs.Received.{fitting_is_held}
use Rattle.record_model.specs.Counts.{capped}
use Rattle.jet_refusal.specs.declared.refusal.Refusal.TheVariants as refusal
use Rattle.jet_commands.proofs.Recording.{short_text, long_text}
use Rattle.jet_commands.proofs.tellings.converted.Goals as goal

pub returns-then-size : goal.returns-then-size
returns-then-size c =
    let log = c.args.job.now.log in
    let size : c.size-size.result ≡ length (log_text Two log) = c.size-size.ensures.length ∙ ap (λ (l : Log). length (log_text Two l)) c.log-log.ensures in
    let long : 2 ^ 26 < length (log_text Two log) = omega (arith, c.if-size.true, size) in
    let told : capped (length (log_text Two log)) ≡ c.size-size.result = omega (arith, size, c.size-size.ensures.limit) in
    long_text log long ∙ ap (λ (n : ℕ). Err (refusal.LogTooLong n)) told

pub returns : goal.returns
returns c =
    let log = c.args.job.now.log in
    let size : c.size-size.result ≡ length (log_text Two log) = c.size-size.ensures.length ∙ ap (λ (l : Log). length (log_text Two l)) c.log-log.ensures in
    let short : length (log_text Two log) ≤ 2 ^ 26 = omega (arith, c.if-size.false, size) in
    short_text log short ∙ ap Ok (sym (c.in_ok-text.ensures ∙ ap (λ (l : Log). log_text Two l) c.log-log.ensures))

pub write_log-requires : goal.write_log-requires
write_log-requires c =
    let job = c.args.job.now in
    subst (λ (l : Log). CanHold Two l) (sym c.log-log.ensures) (fitting_is_held job.start job.log c.form.ensures.form c.form.ensures.agrees c.form.ensures.small)
