use Rattle.std.proofs.Common.{subst}
use Rattle.log_model.specs.Logs.{steps}
use Rattle.replay_run.specs.Runs.{RunAt}
use Rattle.summary_join.specs.First.{found_by}
use Rattle.checked_epochs.specs.Found.{IsFirstAhead}
use Rattle.checked_epochs.proofs.FirstEpochs.{first_ahead}
use Rattle.checked_epochs.proofs.first.analyse_only.Goals as goal

pub returns-clause-found : goal.returns-clause-found
returns-clause-found g c =
    let q = c.args.query.now in
    let run = c.in_ok-checker.checker in
    let t = c.in_ok-tracked.tracked in
    rw (c.new.ensures, c.requires.begun.ends)
    (subst (λ (run : RunAt). IsFirstAhead q run (steps run.log) (found_by t.labels t.places t.sinks.items)) c.in_ok-checker.ensures.run
    (first_ahead q run (steps run.log) t c.in_ok-tracked.ensures.tracked))
