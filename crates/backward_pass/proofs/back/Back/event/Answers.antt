use Rattle.std.proofs.Common.{◌≡◌, ◌+◌, refl, ap, ◌∙◌, arith}
use Rattle.flow_model.specs.declared.Message.TheVariants.{End}
use Rattle.pass_parts.proofs.Events.{waits_at}
use Rattle.pass_parts.specs.Ends.{through, with, IsRefused}
use Rattle.backward_pass.specs.Backward.{BackView, back_of}
use Rattle.backward_pass.proofs.Backing.{moved_next, push_next, over_next, full_next, empty_next, pop_next, no_room_next, end_next, needs_room}
use Rattle.backward_pass.proofs.back.Back.event.Goals as goal

pub returns-in-Moved-clause-event : goal.returns-in-Moved-clause-event
returns-in-Moved-clause-event g c = moved_next (back_of c.args.self.now) _ _ c.requires (back_of c.next.new.self) c.in-Moved.ensures

pub returns-then-not-push_message-clause-event : goal.returns-then-not-push_message-clause-event
returns-then-not-push_message-clause-event g c =
    full_next (back_of c.args.self.now) _ _ c.requires (back_of c.next.new.self) c.in-Send.ensures.0 _ c.in-Send.message c.in-Send.ensures.1 (c.if-not-push_message.ensures.full refl)

pub returns-else-not-push_message-clause-event : goal.returns-else-not-push_message-clause-event
returns-else-not-push_message-clause-event g c =
    push_next (back_of c.args.self.now) _ _ c.requires _ _ c.in-Send.message c.in-Send.ensures.1 (c.if-not-push_message.ensures.sent refl)
    (ap {A = BackView} (λ v. record v { pushed = v.pushed + 1 }) c.in-Send.ensures.0)

pub returns-in_default-clause-event : goal.returns-in_default-clause-event
returns-in_default-clause-event g c =
    empty_next (back_of c.args.self.now) _ _ c.requires (back_of c.next.new.self) c.in-Receive.ensures.0 _ c.in-Receive.ensures.1 c.in_default.ensures.none

pub returns-in-Some-clause-event : goal.returns-in-Some-clause-event
returns-in-Some-clause-event g c =
    pop_next (back_of c.args.self.now) _ _ c.requires (back_of c.next.new.self) c.in-Receive.ensures.0 (back_of c.take.new.self) _ c.in-Some.message c.in-Receive.ensures.1
    c.in-Some.ensures.some c.take.ensures

pub returns-then-not-push_message-2-clause-event : goal.returns-then-not-push_message-2-clause-event
returns-then-not-push_message-2-clause-event g c =
    no_room_next (back_of c.args.self.now) _ _ c.requires (back_of c.next.new.self) c.in-End.ensures.0 _ c.in-End.ensures.1 (c.if-not-push_message-2.ensures.full refl)

pub returns-else-not-push_message-2-clause-event : goal.returns-else-not-push_message-2-clause-event
returns-else-not-push_message-2-clause-event g c =
    end_next (back_of c.args.self.now) _ _ c.requires (back_of c.next.new.self) c.in-End.ensures.0 _ c.in-End.ensures.1
    (c.if-not-push_message-2.ensures.sent refl ∙ ap (λ w. with (End w) (through g.O.Outlet.end c.args.outlet.now)) c.whole-whole.ensures)

pub returns-in-Over-clause-event : goal.returns-in-Over-clause-event
returns-in-Over-clause-event g c = over_next (back_of c.args.self.now) _ _ c.requires (back_of c.next.new.self) c.in-Over.ensures.0 c.in-Over.ensures.1

pub overflow_add-self : goal.overflow_add-self
overflow_add-self g c =
    let same : c.next.new.self.pushed ≡ c.args.self.now.pushed = ap {A = BackView} (λ v. v.pushed) c.in-Send.ensures.0 in
    omega (arith, same, c.in-Send.ensures.1.fits)

pub returns-then-not-push_message-clause-waits : goal.returns-then-not-push_message-clause-waits
returns-then-not-push_message-clause-waits g c =
    waits_at (IsRefused g.I.Inlet.end c.args.inlet.now c.args.inlet.now) _
    (needs_room (back_of c.args.self.now) (through g.I.Inlet.end c.args.inlet.now) (through g.O.Outlet.end c.args.outlet.now) c.in-Send.message c.in-Send.ensures.1)
    (c.if-not-push_message.ensures.refused refl)
