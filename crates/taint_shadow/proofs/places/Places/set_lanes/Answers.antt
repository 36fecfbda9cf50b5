use Rattle.std.proofs.Common.{◌<◌, length, true, false, arith}
use Rattle.std.proofs.lemmas.Bool.{true≢false, false≢true}
use Rattle.taint_shadow.proofs.Notes.{noted_set, alike_set}
use Rattle.taint_shadow.proofs.places.Places.set_lanes.Goals as goal

pub invariant_of-self-clause-same : goal.invariant_of-self-clause-same
invariant_of-self-clause-same c =
    let p = c.args.self.now in
    let d = c.args.number in
    let inside : d < length p.registers.items = omega (arith, c.requires, p.lanes) in
    alike_set p.uniform.bits c.without-self.result.bits d false p.registers.items c.args.lanes inside c.without-self.ensures (λ e. absurd (false≢true e)) p.same

pub invariant_of-self-clause-noted : goal.invariant_of-self-clause-noted
invariant_of-self-clause-noted c =
    let p = c.args.self.now in
    let d = c.args.number in
    let inside : d < length p.registers.items = omega (arith, c.requires, p.lanes) in
    noted_set p.labelled.bits c.with-self.result.bits d true p.registers.items c.args.lanes inside c.with-self.ensures (λ e. omega (arith, c.if-number-gt0.true)) (λ e. absurd (true≢false e)) p.noted
