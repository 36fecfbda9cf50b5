use Rattle.std.proofs.Common.{◌∷◌, Some, sym, ap, ◌∙◌, arith}
use Rattle.atomic_table.specs.Table.{rest}
use Rattle.epoch_link.proofs.Steps.{found, may_store_head, popped}
use Rattle.epoch_link.proofs.ring_link.end.End.receive.Goals as goal

pub exchange-requires : goal.exchange-requires
exchange-requires g c =
    let e = c.args.self.now in let x = c.requires.0 in let p = c.requires.1 in
    (e.seated ∙ sym (ap (λ z. z.shared.table_id) c.deref.ensures), (Some x, p.out ∙ ap (λ o. (e.slot, Some x) ∷ rest o) (sym p.out)))

pub store-requires : goal.store-requires
store-requires g c =
    let e = c.args.self.now in let now = c.advance.new.self in let t = c.deref-2.result.now.shared in let own = c.deref-2.ensures in
    let f = found now.seat.table_id _ t.table_id _ t.key now.capacity now.seated now.sized (ap (λ z. z.shared.table_id) own) (ap (λ z. z.shared.key) own) in (
      f.same,
      omega (arith, f.words),
      may_store_head t.key t.table_id.slots e.capacity e.count e.slot now.count now.seat.id e.seat.me now.seat.me c.requires.0 f.keyed (f.slots ∙ c.advance.ensures.same.2) c.requires.1
          (ap (λ z. z.me) c.advance.ensures.same.0 ∙ c.exchange.ensures.3) c.advance.ensures.count,
    )

pub returns-clause-ready : goal.returns-clause-ready
returns-clause-ready g c =
    let e = c.args.self.now in let now = c.advance.new.self in
    popped e.capacity now.capacity e.count now.count e.slot now.slot e.seat.me now.seat.me c.store.new.seat.me c.requires.0 c.requires.1 (ap (λ z. z.me) c.advance.ensures.same.0 ∙ c.exchange.ensures.3)
    c.store.ensures.2 c.advance.ensures.same.2 c.advance.ensures.count c.advance.ensures.slot
