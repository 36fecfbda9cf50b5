use Rattle.std.proofs.Common.{refl}
use Rattle.std.proofs.lemmas.Result.{IfOk-weaker}
use Rattle.taint_shadow.proofs.Flows.{cut_stand, no_base, base_cut}
use Rattle.taint_shadow.proofs.shapes.add_base.Goals as goal

pub returns-then-is_clean : goal.returns-then-is_clean
returns-then-is_clean g c =
    no_base g.A.Labels.words g.met.A.Labels.laws _ c.args.places.now c.requires.standing c.args.base c.args.size c.args.lanes c.requires.base (c.if-is_clean.ensures refl) c.requires.size.1 c.requires.lanes

pub based-requires-clause-lanes : goal.based-requires-clause-lanes
based-requires-clause-lanes g c = cut_stand g.A.Labels.words g.met.A.Labels.laws _ c.args.lanes c.extended.result c.args.size c.requires.lanes c.extended.ensures

pub returns : goal.returns
returns g c =
    IfOk-weaker _ _ _ (λ z made. base_cut g.A.Labels.words g.met.A.Labels.laws _ c.args.places.now c.requires.standing _ c.args.base c.args.size c.args.lanes c.extended.result z c.requires.size.1 c.extended.ensures made) c.based.ensures
