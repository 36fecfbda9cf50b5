use Rattle.std.proofs.Common.{subst}
use Rattle.std.specs.Prelude.{IfOk}
use Rattle.epoch_node.specs.Keeping.{HasDone, HasCounted}
use Rattle.epoch_node.specs.Nodes.{NodeView, traffic_of}
use Rattle.epoch_node.proofs.node.Node.finish.Goals as goal

pub returns-clause-done : goal.returns-clause-done
returns-clause-done g c =
    let r = c.in_ok-sets in
    subst (λ (v : NodeView). IfOk r.sets (λ rows. HasDone v.core.setup (traffic_of v.ends) r.asked rows)) c.self.view_is
    (r.ensures.done (traffic_of c.self.inside.ends) c.self.invariant)

pub returns-clause-counted : goal.returns-clause-counted
returns-clause-counted g c =
    let r = c.in_ok-sets in
    subst (λ (v : NodeView). IfOk r.sets (λ rows. HasCounted v.core.setup (traffic_of v.ends) r.asked rows r.events)) c.self.view_is
    (r.ensures.counted (traffic_of c.self.inside.ends) c.self.invariant)
