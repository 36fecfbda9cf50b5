use Rattle.std.proofs.Common.{◌≡◌, true, false, ap, sym, subst, ◌∙◌}
use Rattle.epoch_node.specs.Cores.{core_of, phase_of, uses_asks}
use Rattle.epoch_node.specs.Keeping.{KeepsCore}
use Rattle.epoch_node.specs.Nodes.{NodeView, traffic_of, IsLedFrom}
use Rattle.epoch_node.proofs.NodeSteps.{event_leads, event_keeps}
use Rattle.epoch_node.proofs.node.Node.step.Goals as goal
use Rattle.epoch_node.proofs.node.Node.step.Goals.{then-uses_asks, else-uses_asks}

pub returns-clause-led : goal.returns-clause-led
returns-clause-led g c =
    let s = c.self.inside in
    let core = core_of s.core in
    let old : NodeView = record { core = core; ends = s.ends } in
    let uses : uses_asks (phase_of core.stage) ≡ c.uses_asks.result = ap uses_asks (sym c.phase.ensures) ∙ sym c.uses_asks.ensures in
    subst (IsLedFrom (record { core = core_of c.if-uses_asks.self-inside.core; ends = c.if-uses_asks.self-inside.ends })) c.self.view_is
    (elim c.if-uses_asks.branch [
      | then-uses_asks w ↦
          let e = w.step.ensures in
          subst (λ n. IsLedFrom (record { core = core_of n.core; ends = n.ends }) old) (sym w.self-inside-is)
          (event_leads true core (core_of w.step.new.self) s.ends w.step.new.inlet w.step.new.outlet w.step.result (uses ∙ w.if-uses_asks.true) e.event e.inlet e.outlet)
      | else-uses_asks w ↦
          let e = w.step-else-uses_asks.ensures in
          subst (λ n. IsLedFrom (record { core = core_of n.core; ends = n.ends }) old) (sym w.self-inside-is)
          (event_leads false core (core_of w.step-else-uses_asks.new.self) s.ends w.step-else-uses_asks.new.inlet w.step-else-uses_asks.new.outlet w.step-else-uses_asks.result (uses ∙ w.if-uses_asks.false) e.event e.inlet e.outlet)
    ])

pub invariant_of-self : goal.invariant_of-self
invariant_of-self g c =
    let s = c.self.inside in
    let core = core_of s.core in
    let uses : uses_asks (phase_of core.stage) ≡ c.uses_asks.result = ap uses_asks (sym c.phase.ensures) ∙ sym c.uses_asks.ensures in
    elim c.if-uses_asks.branch [
      | then-uses_asks w ↦
          subst (λ n. KeepsCore (core_of n.core) (traffic_of n.ends)) (sym w.self-inside-is)
          (event_keeps true core (core_of w.step.new.self) s.ends w.step.new.inlet w.step.new.outlet w.step.result (uses ∙ w.if-uses_asks.true) w.step.ensures.event c.self.invariant)
      | else-uses_asks w ↦
          let later = w.step-else-uses_asks in
          subst (λ n. KeepsCore (core_of n.core) (traffic_of n.ends)) (sym w.self-inside-is)
          (event_keeps false core (core_of later.new.self) s.ends later.new.inlet later.new.outlet later.result (uses ∙ w.if-uses_asks.false) later.ensures.event c.self.invariant)
    ]
