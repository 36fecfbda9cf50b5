use Rattle.std.proofs.Common.{ap, sym, ◌∙◌}
use Rattle.flow_rule.specs.Flows.{count_of}
use Rattle.flow_rule.proofs.Tables.{length_is}
use Rattle.flow_rule.proofs.flows.Flow.count.Goals as goal

pub returns-in-Memory-clause-value : goal.returns-in-Memory-clause-value
returns-in-Memory-clause-value c = sym (length_is c.self.inside.targets c.self.inside.origins _ c.self.view_is ∙ ap count_of c.in-Memory.is)
