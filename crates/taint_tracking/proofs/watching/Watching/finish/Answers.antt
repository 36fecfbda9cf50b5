use Rattle.std.proofs.Common.{sym, subst}
use Rattle.std.specs.Prelude.{IfSome}
use Rattle.taint_shadow.specs.Steps.{AreStanding}
use Rattle.taint_tracking.specs.Sinks.{AreLabelled}
use Rattle.taint_tracking.specs.Following.{IsSound, IsTracked, IsOfEpoch}
use Rattle.taint_tracking.specs.Watched.{unless_faulty}
use Rattle.taint_tracking.proofs.watching.Watching.finish.Goals as goal

pub returns-in-None-clause-standing : goal.returns-in-None-clause-standing
returns-in-None-clause-standing g c =
    let words = g.L.Labels.words in
    let sound = subst (λ o. IfSome (unless_faulty o c.self.inside.tracking) (IsSound words)) c.in-None.is c.self.invariant in
    subst (λ t. AreStanding words t.labels t.places) (sym c.into_parts.ensures) sound.locations

pub returns-in-None-clause-labelled : goal.returns-in-None-clause-labelled
returns-in-None-clause-labelled g c =
    let words = g.L.Labels.words in
    let sound = subst (λ o. IfSome (unless_faulty o c.self.inside.tracking) (IsSound words)) c.in-None.is c.self.invariant in
    subst (λ t. AreLabelled words t.labels t.sinks.items) (sym c.into_parts.ensures) sound.sinks

pub returns-in-None-clause-found : goal.returns-in-None-clause-found
returns-in-None-clause-found g c q trace first time tracked m course =
    let words = g.L.Labels.words in
    let kept = subst (λ w. IfSome w (IsTracked words q trace first time m)) (sym c.self.view_is) (tracked m course) in
    let here = subst (λ o. IfSome (unless_faulty o c.self.inside.tracking) (IsTracked words q trace first time m)) c.in-None.is kept in
    subst (IsOfEpoch words q trace first time m) (sym c.into_parts.ensures) here.found
