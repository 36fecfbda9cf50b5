use Rattle.std.proofs.Common.{ℕ, sym, subst}
use Rattle.std.proofs.lemmas.Result.{IfOk-weaker}
use Rattle.decision_find.specs.Following.{IsTracked}
use Rattle.decision_find.specs.Watched.{IsSeenTo}
use Rattle.decision_find.proofs.watching.DecisionWatchingRunWatcher.begin.Goals as goal

pub returns : goal.returns
returns c job stands first q begun is =
    let old = c.args.self.now in
    let tracked = IfOk-weaker old.tracking _ (IsTracked q job c.args.at.now.moment.time) (λ t h. subst (λ (n : ℕ). IsTracked q job n t) (sym first) (h job)) begun.tracked in
    subst (λ (n : ℕ). IsSeenTo q job n c.stand.new.self) first (c.stand.ensures q job is stands begun.trap_is tracked)
