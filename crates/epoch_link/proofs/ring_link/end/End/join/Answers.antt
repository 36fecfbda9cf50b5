use Rattle.std.proofs.Common.{ap, ◌∙◌, arith}
use Rattle.epoch_link.proofs.Seats.{joins}
use Rattle.epoch_link.proofs.Steps.{found}
use Rattle.epoch_link.proofs.ring_link.end.End.join.Goals as goal

pub join_seat-requires : goal.join_seat-requires
join_seat-requires g c =
    let e = c.args.self in let w = c.args.sending.seat in let t = c.deref.result.now.shared in let own = c.deref.ensures in
    let f = found e.seat.table_id _ t.table_id _ t.key e.capacity e.seated e.sized (ap (λ z. z.shared.table_id) own) (ap (λ z. z.shared.key) own) in
    (c.requires.link ∙ f.same, f.same, c.requires.receiving.out, omega (arith, f.words), joins t.key w.id w.me.0 e.seat.id e.seat.me.0 c.requires.sending.produces c.requires.receiving.consumes)
