use Rattle.std.proofs.Common.{sym, ap, ◌∙◌, rules}
use Rattle.epoch_link.specs.Ring.{Seated}
use Rattle.epoch_link.specs.Ends.{left_of}
use Rattle.epoch_link.proofs.Rests.{nothing, rests}
use Rattle.epoch_link.proofs.ring_link.left.Left.next.Goals as goal

pub returns-then-not-self-clause-none : goal.returns-then-not-self-clause-none
returns-then-not-self-clause-none g c =
    let none = sym c.self.view_is ∙ nothing (left_of c.self.inside.end.seat.me.0) (sym c.self.invariant.told ∙ search rules) in
    (none, none)

pub invariant_of-self : goal.invariant_of-self
invariant_of-self g c =
    let e = c.receive-item.new.self in let now = c.load_tail.new.self in let look = c.load_tail.ensures in
    let mine = ap {A = Seated g.row.T.Denot} (λ m. m.0.produces) c.receive-item.ensures.got ∙ c.self.invariant.produces in
    rests e.capacity now.capacity e.count now.count e.slot now.slot c.load_tail.result e.seat.me now.seat.me c.receive-item.ensures.ready mine look.empty look.found (look.remains mine) look.same.1 look.place.0 look.place.1
