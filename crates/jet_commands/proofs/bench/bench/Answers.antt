use Rattle.std.proofs.Common.{◌≡◌, ◌∙◌, ap, rules, sym, subst, arith, ℕ, ◌≤◌, Option, Some, None, IfSome, unwrap_or, Ok, Err}
use Rattle.std.proofs.lemmas.Result.{err_from_is_err_and}
use Rattle.log_model.specs.Logs.{Log, steps}
use Rattle.epoch_model.specs.ByLength.{cut_times}
use Rattle.jet_model.specs.Answer.{epochs_check}
use Rattle.command_parts.specs.Outcome.{IsWork}
use Rattle.order_gateway.specs.Answer.{IsBenchAnswer}
use Rattle.jet_commands.specs.Answers.{IsWorkOf, workload_length}
use Rattle.jet_commands.proofs.Benching.{cuts-stop, lines-give}
use Rattle.jet_commands.proofs.bench.bench.Goals as goal

-- a told length is one at least, and so is the other
some_length : (told : Option ℕ) → IfSome told (λ n. (1 ≤ n) × (n ≤ 1099511627776)) → 1 ≤ unwrap_or told 4096
some_length None h = omega arith
some_length (Some n) h = h.0

pub returns-in_err-job-clause-answer : goal.returns-in_err-job-clause-answer
returns-in_err-job-clause-answer g c =
    let refused : IsWorkOf (IsBenchAnswer c.args.seed c.args.steps (workload_length c.args.pipeline)) (Err c.in_err-job.field-0.0) =
    c.in_err-job.ensures.err (workload_length c.args.pipeline) in
    search rules

pub returns-in_err-cuts-clause-answer : goal.returns-in_err-cuts-clause-answer
returns-in_err-cuts-clause-answer g c =
    let refused : IsWorkOf (IsBenchAnswer c.args.seed c.args.steps (workload_length c.args.pipeline)) (Err c.in_err-cuts.field-0.0) =
    subst (λ (n : ℕ). IsWorkOf (IsBenchAnswer c.args.seed c.args.steps n) (Err c.in_err-cuts.field-0.0)) c.unwrap_or-length.ensures
    (cuts-stop c.args.seed c.args.steps c.unwrap_or-length.result c.in_ok-job.job c.in_ok-job.ensures.ok c.in_err-cuts.field-0.0
    (subst (λ (log : Log). IsWork (epochs_check c.unwrap_or-length.result log) (Err c.in_err-cuts.field-0.0)) c.log.ensures c.in_err-cuts.ensures.check)) in
    search rules

pub returns-clause-answer : goal.returns-clause-answer
returns-clause-answer g c =
    subst (λ (n : ℕ). IsBenchAnswer c.args.seed c.args.steps n (Ok c.in_ok-text.text.items)) c.unwrap_or-length.ensures
    (lines-give c.args.seed c.args.steps c.unwrap_or-length.result c.in_ok-job.job c.in_ok-job.ensures.ok
    (subst (λ (log : Log). epochs_check c.unwrap_or-length.result log ≡ Ok tt) c.log.ensures c.in_ok-cuts.ensures.check) c.in_ok-cuts.cuts c.in_ok-text.text.items
    (c.in_ok-cuts.ensures.times ∙ ap (λ (log : Log). cut_times (steps log) c.unwrap_or-length.result) c.log.ensures) c.in_ok-text.ensures)

pub cuts_of-requires : goal.cuts_of-requires
cuts_of-requires g c = subst (λ (n : ℕ). 1 ≤ n) (sym c.unwrap_or-length.ensures) (some_length c.args.pipeline.epoch c.requires.pipeline.0)

pub returns-in_err-text-clause-answer : goal.returns-in_err-text-clause-answer
returns-in_err-text-clause-answer g c =
    let p = err_from_is_err_and c.from_residual-in_err-text.result c.from_residual-in_err-text.ensures.1 in
    rw (p.1, p.2) tt
