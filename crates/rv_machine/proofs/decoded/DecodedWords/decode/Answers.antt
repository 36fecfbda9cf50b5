use Rattle.std.proofs.Common.{rules, ◌≡◌, ℕ, List, ◌++◌, length, take, drop, ap, sym, subst, ◌∙◌, arith}
use Rattle.std.proofs.Math.Seq.{take-append_seam}
use Rattle.isa.specs.Words.{instruction_of}
use Rattle.rv_machine.specs.declared.decoded.Slot.{Slot}
use Rattle.rv_machine.specs.Decoded.{AreKnown}
use Rattle.rv_machine.proofs.Known.{there_at}
use Rattle.rv_machine.proofs.decoded.DecodedWords.decode.Goals as goal

whole : (n : ℕ) (xs ys : List Slot) → n ≡ length xs → take n (xs ++ ys) ≡ xs
whole n xs ys e = ap (λ (k : ℕ). take k (xs ++ ys)) e ∙ take-append_seam xs ys

pub returns-clause-known : goal.returns-clause-known
returns-clause-known c =
    let memory = c.args.memory.now in
    let is = ap instruction_of (sym c.load.ensures.is) ∙ sym c.in_ok-instr.ensures.is in
    let there = there_at memory c.args.base c.args.pc c.in_ok-instr.instr c.requires.inside c.if-offset-ne0.false is in
    let room = c.make_room.ensures memory c.requires.known in
    let before : AreKnown c.as_mut_slice.result.now memory = search rules in
    let after = c.keep.ensures memory before there in
    let size : c.self.inside.slots.len ≡ length c.keep.new.slots = omega (arith, c.self.inside.slots.ok.0, ap length c.as_mut_slice.ensures.value) in
    subst (λ (l : List Slot). AreKnown l memory) (sym (whole c.self.inside.slots.len c.keep.new.slots (drop (length c.keep.new.slots) c.self.inside.slots.items) size)) after
