use Rattle.std.proofs.Common.{ℕ, ◌-◌, arith, ◌∙◌, subst}
use Rattle.log_model.proofs.Ends.{end_at-le-steps_by}
use Rattle.replayer.specs.Watching.{IsTold}
use Rattle.source_labels.specs.Words.{node_words}
use Rattle.taint_tracking.specs.Watched.{IsOfSteps}
use Rattle.local_taint.specs.Ahead.{tracks}
use Rattle.local_taint.proofs.Tracked.{found_ahead}
use Rattle.local_taint.proofs.ahead.analyse_ahead.Goals as goal

pub returns-in_ok-summary-in-Ok-clause-found : goal.returns-in_ok-summary-in-Ok-clause-found
returns-in_ok-summary-in-Ok-clause-found c =
    let q = c.args.query.now in
    let run = c.args.checker in
    let begun = c.in_ok-watching.watching in
    let done = c.go_to.new.watcher in
    found_ahead q run c.args.ticket begun done (c.in_ok-watching.ensures.first ∙ c.first.ensures) c.requires.begins c.requires.later
    (omega (arith, c.requires.ends, end_at-le-steps_by run.log.end)) (λ trace. subst (λ (t : ℕ). IsOfSteps node_words q trace t t begun.tracking) c.first.ensures (c.in_ok-watching.ensures.begun trace))
    (subst (λ (t : ℕ). IsTold tracks run (t - run.moment.time) begun done) c.past_last.ensures c.in-Ok.ensures.told) c.number.result c.in_ok-summary-in-Ok.summary c.number.ensures c.in_ok-summary-in-Ok.ensures
