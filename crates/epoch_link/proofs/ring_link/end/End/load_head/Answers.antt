use Rattle.std.proofs.Common.{ap, arith}
use Rattle.epoch_link.proofs.Steps.{found, may_load_head}
use Rattle.epoch_link.proofs.ring_link.end.End.load_head.Goals as goal

pub load-requires : goal.load-requires
load-requires g c =
    let e = c.args.self.now in let t = c.deref.result.now.shared in let own = c.deref.ensures in
    let f = found e.seat.table_id _ t.table_id _ t.key e.capacity e.seated e.sized (ap (λ z. z.shared.table_id) own) (ap (λ z. z.shared.key) own) in
    (f.same, omega (arith, f.words), may_load_head t.key t.table_id.slots e.seat.id e.capacity e.count e.slot e.seat.me f.keyed c.requires)
