use Rattle.std.proofs.Common.{ap, ◌∙◌, sym, Some}
use Rattle.flow_rule.specs.Flows.{origins_at}
use Rattle.flow_rule.proofs.Tables.{lane_small, origins_are, none_at}
use Rattle.flow_rule.proofs.flows.Flow.origins.Goals as goal

pub lane_of-requires : goal.lane_of-requires
lane_of-requires c = lane_small c.self.inside.targets c.self.inside.origins _ _ c.args.i c.self.invariant c.self.view_is c.in-Each.is c.requires

pub returns-in-Same-clause-value : goal.returns-in-Same-clause-value
returns-in-Same-clause-value c =
    origins_are c.self.inside.targets c.self.inside.origins _ c.args.i c.self.view_is c.requires
    ∙ ap (λ o. Some (origins_at o c.args.i)) c.in-Same.is ∙ ap Some (sym c.as_slice.ensures.value)

pub returns-in-First-2-clause-value : goal.returns-in-First-2-clause-value
returns-in-First-2-clause-value c =
    origins_are c.self.inside.targets c.self.inside.origins _ c.args.i c.self.view_is c.requires
    ∙ ap (λ o. Some (origins_at o c.args.i)) c.in-First-2.is ∙ ap Some (none_at c.in-First-2.field-0 c.args.i c.if-i-eq0.false)

pub returns-in-Each-clause-value : goal.returns-in-Each-clause-value
returns-in-Each-clause-value c =
    origins_are c.self.inside.targets c.self.inside.origins _ c.args.i c.self.view_is c.requires
    ∙ ap (λ o. Some (origins_at o c.args.i)) c.in-Each.is ∙ ap Some (sym c.lane_of.ensures.value)
