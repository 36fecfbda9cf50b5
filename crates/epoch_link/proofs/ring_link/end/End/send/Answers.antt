use Rattle.std.proofs.Common.{ap, ◌∙◌, arith}
use Rattle.epoch_link.proofs.Steps.{found, may_store_tail, pushed}
use Rattle.epoch_link.proofs.ring_link.end.End.send.Goals as goal

pub store-requires : goal.store-requires
store-requires g c =
    let e = c.args.self.now in let now = c.advance.new.self in let t = c.deref-2.result.now.shared in let own = c.deref-2.ensures in
    let f = found now.seat.table_id _ t.table_id _ t.key now.capacity now.seated now.sized (ap (λ z. z.shared.table_id) own) (ap (λ z. z.shared.key) own) in (
      f.same,
      omega (arith, f.words),
      may_store_tail t.key t.table_id.slots e.capacity e.count e.slot now.count now.seat.id e.seat.me now.seat.me c.args.item f.keyed (f.slots ∙ c.advance.ensures.same.2) c.requires
          (ap (λ z. z.me) c.advance.ensures.same.0 ∙ c.exchange.ensures.3) c.advance.ensures.count,
    )

pub returns-clause-ready : goal.returns-clause-ready
returns-clause-ready g c =
    let e = c.args.self.now in let now = c.advance.new.self in
    pushed e.capacity now.capacity e.count now.count e.slot now.slot e.seat.me now.seat.me c.store.new.seat.me c.args.item c.requires (ap (λ z. z.me) c.advance.ensures.same.0 ∙ c.exchange.ensures.3)
    c.store.ensures.2 c.advance.ensures.same.2 c.advance.ensures.count c.advance.ensures.slot
