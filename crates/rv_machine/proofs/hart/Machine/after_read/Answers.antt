use Rattle.std.proofs.Common.{rules, sym, subst, ◌-◌}
use Rattle.isa.specs.Machine.{State, reg}
use Rattle.rv_machine.specs.Decoded.{AreKnown}
use Rattle.rv_machine.proofs.Known.{empty_known, read_known}
use Rattle.rv_machine.proofs.hart.Machine.after_read.Goals as goal

pub invariant_of-self : goal.invariant_of-self
invariant_of-self c =
    let s = c.self.inside.state in
    subst (λ (x : State). AreKnown c.self.inside.decoded x.memory) (sym c.after_read.ensures) (empty_known c.self.inside.decoded s.memory (reg s 11 - s.base) c.args.bytes.now c.self.invariant (search rules))

pub invariant_of-self-2 : goal.invariant_of-self-2
invariant_of-self-2 c =
    let s = c.self.inside.state in
    subst (λ (x : State). AreKnown c.forget.new.self x.memory) (sym c.after_read-2.ensures) (read_known c.self.inside.decoded c.forget.new.self s (reg s 11) c.args.bytes.now (c.register.result - c.base.result) (search rules) c.forget.ensures c.self.invariant (search rules))
