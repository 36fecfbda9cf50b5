use Rattle.std.proofs.Common.{sym, subst, ◌∙◌}
use Rattle.pass_parts.specs.Ends.{IsRefused}
use Rattle.pass_parts.specs.Turns.{OnNotYet}
use Rattle.epoch_node.specs.Cores.{stage_of, core_of}
use Rattle.epoch_node.specs.Events.{phase_traffic, WaitsAt, CanAct}
use Rattle.epoch_node.proofs.Acting.{is_done, not_done, same_none}
use Rattle.epoch_node.proofs.Stepping.{acts_of, can_act, can_advance, when_not_yet, event_of, rest_event}
use Rattle.epoch_node.proofs.node_core.Core.step.Goals as goal

pub returns-then-eq-clause-event : goal.returns-then-eq-clause-event
returns-then-eq-clause-event g c = rest_event (core_of c.args.self.now) _ c.requires.ready (sym c.phase.ensures ∙ is_done _ (sym c.eq.ensures ∙ c.if-eq.true))

pub act-came_to-requires : goal.act-came_to-requires
act-came_to-requires g c =
    subst (λ s. CanAct (stage_of s) (phase_traffic g.I.Inlet.end g.O.Outlet.end c.args.inlet.now c.args.outlet.now)) (sym c.deref_mut.ensures.value)
    (can_act (core_of c.args.self.now) _ c.requires.ready (λ d. not_done _ (sym c.eq.ensures ∙ c.if-eq.false) (c.phase.ensures ∙ d)))

pub go_on-requires : goal.go_on-requires
go_on-requires g c =
    let e = c.act-came_to.ensures in
    let on = phase_traffic g.I.Inlet.end g.O.Outlet.end c.args.inlet.now c.args.outlet.now in
    let later = phase_traffic g.I.Inlet.end g.O.Outlet.end c.act-came_to.new.inlet c.act-came_to.new.outlet in
    let next = stage_of c.act-came_to.new.self in
    can_advance (core_of c.args.self.now) next on later c.act-came_to.result (acts_of c.deref_mut.ensures.value next on later c.act-came_to.result e.acts) c.requires.ready
    (same_none g.I.Inlet.end _ _ e.inlet)

pub returns-clause-event : goal.returns-clause-event
returns-clause-event g c =
    let e = c.act-came_to.ensures in
    let on = phase_traffic g.I.Inlet.end g.O.Outlet.end c.args.inlet.now c.args.outlet.now in
    let later = phase_traffic g.I.Inlet.end g.O.Outlet.end c.act-came_to.new.inlet c.act-came_to.new.outlet in
    let next = stage_of c.act-came_to.new.self in
    event_of (core_of c.args.self.now) next on later c.act-came_to.result (acts_of c.deref_mut.ensures.value next on later c.act-came_to.result e.acts) c.requires.ready
    (same_none g.I.Inlet.end _ _ e.inlet) (same_none g.O.Outlet.end _ _ e.outlet) (core_of c.go_on.new.self) c.go_on.result c.go_on.ensures
    (λ d. not_done _ (sym c.eq.ensures ∙ c.if-eq.false) (c.phase.ensures ∙ d))

pub returns-clause-waits : goal.returns-clause-waits
returns-clause-waits g c =
    let on = phase_traffic g.I.Inlet.end g.O.Outlet.end c.args.inlet.now c.args.outlet.now in
    let pops : Type 0 = IsRefused g.I.Inlet.end c.args.inlet.now c.act-came_to.new.inlet in
    let pushes : Type 0 = IsRefused g.O.Outlet.end c.args.outlet.now c.act-came_to.new.outlet in
    when_not_yet c.act-came_to.result _ c.go_on.result _ c.go_on.ensures.answered
    (subst (λ s. OnNotYet c.act-came_to.result (WaitsAt (stage_of s) on pops pushes)) c.deref_mut.ensures.value c.act-came_to.ensures.waits)
