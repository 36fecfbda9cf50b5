use Rattle.std.proofs.Common.{◌≡◌, ℕ, sym, subst}
use Rattle.std.specs.Prelude.{Result, IfOk}
use Rattle.no_memory.specs.declared.NoMemory.{NoMemory}
use Rattle.decision_find.specs.declared.tracking.DecisionTracking.{DecisionTracking}
use Rattle.decision_find.specs.Following.{moment_of}
use Rattle.decision_find.specs.Watched.{IsFollowed, IsSeenTo}
use Rattle.decision_find.proofs.Followed.{step_tracked}
use Rattle.decision_find.proofs.watching.DecisionWatching.follow.Goals as goal

pub returns-in-Ok-step : goal.returns-in-Ok-step
returns-in-Ok-step c was job made seen q begun is =
    let step = c.args.step.now in
    let after = c.args.after.now in
    let pc = c.self.inside.pc in
    let before = subst (IsSeenTo q job step.number) (sym c.self.view_is) (seen q begun is) in
    let followed = subst (λ (r : Result DecisionTracking NoMemory). IfOk r (λ t. (pc ≡ (moment_of job step.number).state.pc) × IsFollowed q job step.number t)) c.in-Ok.is before.followed in
    let here = step_tracked q job step after pc c.in-Ok.tracking c.step.new.self is made followed c.in-Ok-step.ensures.followed in
    subst (λ (n : ℕ). IsSeenTo q job n c.stand.new.self) made.time (c.stand.ensures q job is made.stands before.trap_is here)
