use Rattle.std.proofs.Common.{ap, subst, ◌∙◌}
use Rattle.epoch_node.specs.Cores.{core_of, whole_at}
use Rattle.epoch_node.specs.Nodes.{NodeView, SendsDue}
use Rattle.epoch_node.proofs.NodeSteps.{sends_due}
use Rattle.epoch_node.proofs.node.Node.form.Goals as goal

pub returns : goal.returns
returns g c = λ t.
    let n = c.self.inside in
    subst SendsDue c.self.view_is (sends_due (core_of n.core) n.ends c.self.invariant (ap (λ (v : NodeView). whole_at v.core.stage) c.self.view_is ∙ t))
