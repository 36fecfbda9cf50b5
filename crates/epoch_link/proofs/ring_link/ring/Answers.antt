use Rattle.std.proofs.Common.{ap, arith}
use Rattle.epoch_link.proofs.Seats.{starts, splits}
use Rattle.epoch_link.proofs.ring_link.ring.Goals as goal

pub vacant-requires : goal.vacant-requires
vacant-requires g c = starts c.get-slots.result (omega (arith, c.get-slots.ensures.range.0)) c.get-slots.ensures.range.1

pub split_seat-other-requires : goal.split_seat-other-requires
split_seat-other-requires g c =
    let made = c.in_ok-table.ensures in let table = c.in_ok-table.table.shared in let seat = c.in_ok-table.seat in
    (made.2, omega (arith, made.0), splits table.key seat.id seat.me.0 (ap (λ m. m.0.produces) made.4) (ap (λ m. m.0.consumes) made.4))
