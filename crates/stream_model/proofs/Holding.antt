-- Whatever the schedule, no link holds more messages than its capacity.
use Rattle.std.proofs.Common.{◌≡◌, ℕ, ◌+◌, ◌≤◌, inl, inr, List, [], ◌∷◌, length, ap, true, arith, length-append}
use Rattle.std.specs.Prelude.{Option, Some, None}
use Rattle.std.proofs.lemmas.Grind.{common_steps}
use Rattle.flow_model.specs.declared.Message.{Message}
use Rattle.stream_model.specs.Schedules.{Phase, NodeState, has_room_for, nodes_start, nodes_after}
use Rattle.stream_model.specs.ScheduleLaws.{IsDelivered, AreDelivered, NeverOverfull}
use Rattle.stream_model.proofs.Moving.{IsSent, IsGot, IsKept, part_kept, NodesFit, fit_reached}

module _ (capacity : ℕ) where
  -- what is sent where there is room still fits
  sent_fits : (sent new got : List Message) → IsSent (has_room_for capacity sent got) sent new → length sent ≤ length got + capacity
      → length new ≤ length got + capacity
  sent_fits sent new got (inl e) h = let same = ap length e in omega arith
  sent_fits sent new got (inr s) h =
      let one = ap length s.2 in
      let more = length-append sent (s.0 ∷ []) in
      let room : has_room_for capacity sent got ≡ true = s.1 in
      grind (arith, common_steps, room, one, more)

  fewer : (next : Option Message) (sent got new : List Message) → IsGot next got new → length sent ≤ length got + capacity → length sent ≤ length new + capacity
  fewer next sent got new (inl e) h = let same = ap length e in omega arith
  fewer next sent got new (inr g) h = let one = ap length g.2 in omega (arith, length-append got (g.0 ∷ []))

  delivered_kept : IsKept capacity (IsDelivered capacity)
  delivered_kept =
      let part = part_kept capacity in
      record {
        nothing = record { in_order = part.nothing; few = omega arith };
        sent = λ sent new got s h. record { in_order = part.sent sent new got s h.in_order; few = sent_fits sent new got s h.few };
        got = λ sent got new g h. record { in_order = part.got sent got new g h.in_order; few = fewer _ sent got new g h.few };
      }

  delivered : (previous : Option Phase) (ns : List NodeState) → NodesFit (IsDelivered capacity) previous ns → AreDelivered capacity ns
  delivered previous [] h = tt
  delivered previous (n ∷ []) h = tt
  delivered previous (n ∷ m ∷ ns) h = (h.2.1.asks, h.2.1.answers, delivered (Some n.phase) (m ∷ ns) h.2)

pub never_overfull : NeverOverfull
never_overfull capacity es schedule = delivered capacity None _ (fit_reached capacity (IsDelivered capacity) (delivered_kept capacity) schedule es)
