use Rattle.std.proofs.Common.{◌≡◌, ◌<◌, length, false, refl, arith, sym, subst}
use Rattle.std.proofs.lemmas.Bool.{false≢true}
use Rattle.taint_shadow.specs.declared.lanes.Lanes.{Lanes}
use Rattle.taint_shadow.specs.Lanes.{alike}
use Rattle.taint_shadow.specs.Marks.{has_mark}
use Rattle.taint_shadow.proofs.Notes.{noted_set, alike_set, marks_stay}
use Rattle.taint_shadow.proofs.places.Places.clear.Goals as goal

pub invariant_of-self-clause-same : goal.invariant_of-self-clause-same
invariant_of-self-clause-same c =
    let p = c.args.self.now in
    let marks = p.uniform.bits in
    let d = c.args.number in
    let inside : d < length p.registers.items = omega (arith, c.requires, p.lanes) in
    alike_set marks marks d (has_mark marks d) p.registers.items c.clean.result inside (marks_stay marks d) (λ e. subst (λ (x : Lanes). x ≡ alike x.first) (sym c.clean.ensures) refl) p.same

pub invariant_of-self-clause-noted : goal.invariant_of-self-clause-noted
invariant_of-self-clause-noted c =
    let p = c.args.self.now in
    let d = c.args.number in
    let inside : d < length p.registers.items = omega (arith, c.requires, p.lanes) in
    noted_set p.labelled.bits c.without-self.result.bits d false p.registers.items c.clean.result inside c.without-self.ensures (λ e. absurd (false≢true e)) (λ e. c.clean.ensures) p.noted
