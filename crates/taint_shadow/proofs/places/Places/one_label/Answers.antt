use Rattle.std.proofs.Common.{◌<◌, length, arith, ap, sym, ◌∙◌}
use Rattle.std.proofs.lemmas.List.{get_or_read}
use Rattle.taint_shadow.specs.declared.lanes.Lanes.{Lanes}
use Rattle.taint_shadow.specs.Lanes.{clean}
use Rattle.taint_shadow.proofs.Notes.{one_labelled}
use Rattle.taint_shadow.proofs.places.Places.one_label.Goals as goal

pub returns-then-has : goal.returns-then-has
returns-then-has c = λ i low.
    let p = c.args.self.now in
    let r = c.args.number in
    let inside : r < length p.registers.items = omega (arith, c.requires, p.lanes) in
    let read = get_or_read p.registers.items r c.index.result.now inside c.index.ensures clean in
    one_labelled p r i p.same p.noted c.requires low (sym c.has.ensures ∙ c.if-not-has.false) (sym c.has-2.ensures ∙ c.if-has.true) ∙ ap (λ (x : Lanes). x.first) (sym read)
