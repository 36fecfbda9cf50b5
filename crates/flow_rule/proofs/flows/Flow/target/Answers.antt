use Rattle.std.proofs.Common.{arith, ap, ◌∙◌, Some}
use Rattle.flow_rule.specs.Flows.{target_at}
use Rattle.flow_rule.proofs.Tables.{loc_is, index_small}
use Rattle.flow_rule.proofs.flows.Flow.target.Goals as goal

pub overflow_cast-result-in-Memory : goal.overflow_cast-result-in-Memory
overflow_cast-result-in-Memory c = omega (arith, index_small c.self.inside.targets c.self.inside.origins _ c.args.i c.self.invariant c.self.view_is c.requires)

pub returns-in-Memory : goal.returns-in-Memory
returns-in-Memory c = loc_is c.self.inside.targets c.self.inside.origins _ c.args.i c.self.view_is c.requires ∙ ap (λ t. Some (target_at t c.args.i)) c.in-Memory.is
