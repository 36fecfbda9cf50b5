use Rattle.std.proofs.Common.{ap, refl, ◌∙◌}
use Rattle.flow_model.specs.declared.Message.TheVariants.{End}
use Rattle.pass_parts.proofs.Events.{waits_at}
use Rattle.pass_parts.specs.Ends.{through, with, IsRefused}
use Rattle.forward_pass.specs.Forward.{ForeView, fore_of}
use Rattle.forward_pass.specs.Rest.{BeingSent, rest_of}
use Rattle.forward_pass.proofs.Events.{moved_next, over_next, full_next, push_next, empty_next, needs_item, pop_next, no_room_next, end_next}
use Rattle.forward_pass.proofs.state.Fore.event.Goals as goal

pub returns-in-Moved-clause-event : goal.returns-in-Moved-clause-event
returns-in-Moved-clause-event g c = moved_next (fore_of c.args.self.now) _ _ c.requires (fore_of c.next.new.self) c.in-Moved.ensures

pub returns-then-not-push_message-clause-event : goal.returns-then-not-push_message-clause-event
returns-then-not-push_message-clause-event g c =
    full_next (fore_of c.args.self.now) _ _ c.requires (fore_of c.next.new.self) c.in-Send.ensures.0 _ c.in-Send.message c.in-Send.ensures.1 (c.if-not-push_message.ensures.full refl)

pub returns-else-not-push_message-clause-event : goal.returns-else-not-push_message-clause-event
returns-else-not-push_message-clause-event g c =
    push_next (fore_of c.args.self.now) _ _ c.requires _ _ c.in-Send.message c.in-Send.ensures.1 (c.if-not-push_message.ensures.sent refl)
    (ap (λ (s : BeingSent). record (fore_of c.next.new.self) { sending = s.left }) c.advance.ensures ∙ ap {A = ForeView} (λ v. record v { sending = rest_of v.sending }) c.in-Send.ensures.0)

pub returns-in_default-clause-event : goal.returns-in_default-clause-event
returns-in_default-clause-event g c =
    empty_next (fore_of c.args.self.now) _ _ c.requires (fore_of c.next.new.self) c.in-Receive.ensures.0 _ c.in-Receive.ensures.1 c.in_default.ensures.none

pub returns-in-Some-clause-event : goal.returns-in-Some-clause-event
returns-in-Some-clause-event g c =
    pop_next (fore_of c.args.self.now) _ _ c.requires (fore_of c.next.new.self) c.in-Receive.ensures.0 (fore_of c.take.new.self) _ c.in-Some.message c.in-Receive.ensures.1
    c.in-Some.ensures.some c.take.ensures

pub returns-then-not-push_message-2-clause-event : goal.returns-then-not-push_message-2-clause-event
returns-then-not-push_message-2-clause-event g c =
    no_room_next (fore_of c.args.self.now) _ _ c.requires (fore_of c.next.new.self) c.in-End.ensures.0 _ c.in-End.ensures.1 (c.if-not-push_message-2.ensures.full refl)

pub returns-else-not-push_message-2-clause-event : goal.returns-else-not-push_message-2-clause-event
returns-else-not-push_message-2-clause-event g c =
    end_next (fore_of c.args.self.now) _ _ c.requires (fore_of c.next.new.self) c.in-End.ensures.0 _ c.in-End.ensures.1
    (c.if-not-push_message-2.ensures.sent refl ∙ ap (λ w. with (End w) (through g.O.Outlet.end c.args.outlet.now)) c.whole-whole.ensures)

pub returns-in-Over-clause-event : goal.returns-in-Over-clause-event
returns-in-Over-clause-event g c = over_next (fore_of c.args.self.now) _ _ c.requires (fore_of c.next.new.self) c.in-Over.ensures.0 c.in-Over.ensures.1

pub returns-in_default-clause-waits : goal.returns-in_default-clause-waits
returns-in_default-clause-waits g c =
    waits_at _ (IsRefused g.O.Outlet.end c.args.outlet.now c.args.outlet.now)
    (needs_item (fore_of c.args.self.now) (through g.I.Inlet.end c.args.inlet.now) (through g.O.Outlet.end c.args.outlet.now) c.requires c.in-Receive.ensures.1)
    c.in_default.ensures.refused
