use Rattle.std.proofs.Common.{ap, sym, ◌∙◌, subst}
use Rattle.log_model.specs.declared.RunEnd.{RunEnd}
use Rattle.log_model.specs.Logs.{Log}
use Rattle.decision_find.specs.Watched.{HasBegun}
use Rattle.decision_find.proofs.finding.check_and_decide.Goals as goal

pub returns-clause-text : goal.returns-clause-text
returns-clause-text c =
    let job = c.in_ok-job.job in
    let query = c.args.query.now in
    let ends = c.end.ensures ∙ ap (λ (l : Log). l.end) (sym c.in_ok-job.ensures.ok.same_log) in
    let begun = subst (λ (e : RunEnd). HasBegun query e c.new-watching.result) ends c.new-watching.ensures in
    c.in_ok-text.ensures query job (c.in_ok-job.ensures.seen query begun c.form.ensures)
