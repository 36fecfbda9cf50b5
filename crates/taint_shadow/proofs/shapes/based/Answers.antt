use Rattle.std.proofs.Common.{sym, subst}
use Rattle.std.proofs.lemmas.Result.{IfOk-weaker}
use Rattle.taint_shadow.specs.Lanes.{LanesStand, both_mean, MakesLanes}
use Rattle.taint_shadow.proofs.Meaning.{alike_stand, stand_kept}
use Rattle.taint_shadow.proofs.Flows.{with_label}
use Rattle.taint_shadow.proofs.shapes.based.Goals as goal

pub unite_lanes-requires-clause-one : goal.unite_lanes-requires-clause-one
unite_lanes-requires-clause-one g c = subst (LanesStand g.A.Labels.words _) (sym c.alike.ensures) (alike_stand g.A.Labels.words _ c.in_ok-label.label c.in_ok-label.ensures.made.stands)

pub unite_lanes-requires-clause-other : goal.unite_lanes-requires-clause-other
unite_lanes-requires-clause-other g c = stand_kept g.A.Labels.words _ _ c.args.lanes c.in_ok-label.ensures.keeps c.requires.lanes

pub returns : goal.returns
returns g c =
    let words = g.A.Labels.words in
    let b = c.register_label.new.labels in
    IfOk-weaker _ _ _ (λ z second. with_label words g.met.A.Labels.laws _ c.args.places.now c.requires.standing _ _ c.args.base c.in_ok-label.label c.args.lanes z c.requires.lanes c.in_ok-label.ensures
    (subst (λ x. MakesLanes words b 4 (both_mean words b x c.args.lanes) c.unite_lanes.new.labels z) c.alike.ensures second)) c.unite_lanes.ensures
