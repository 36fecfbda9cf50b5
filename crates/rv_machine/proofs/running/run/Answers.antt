use Rattle.std.proofs.Common.{rules, refl, arith, ap, subst, sym, ◌+◌, ◌-◌, ◌/◌, ◌%◌, ◌^◌, ℕ, List}
use Rattle.rv_machine.specs.declared.running.Made.{Made}
use Rattle.rv_machine.specs.Decoded.{AreKnown}
use Rattle.rv_machine.specs.Effects.{state_of}
use Rattle.rv_machine.specs.Running.{IsFollowed, IsChanged, pc_of, made_pc, number_after}
use Rattle.rv_machine.proofs.Known.{stored_known}
use Rattle.rv_machine.proofs.Rows.{known_word, at_word, running_begun, running_on, counted_on, more_slots}
use Rattle.rv_machine.proofs.running.run.Goals as goal

pub returns-then-first-slots-clause-made : goal.returns-then-first-slots-clause-made
returns-then-first-slots-clause-made g c =
    (running_begun g.F.Follower.told g.F.Follower.wants (state_of (pc_of c.args.base c.args.first) c.args.registers.now c.args.base c.args.memory.now) c.args.follower.now c.args.slots.now c.args.most c.requires.known).made

pub loop-left-init : goal.loop-left-init
loop-left-init g c = record {
  running = running_begun g.F.Follower.told g.F.Follower.wants (state_of (pc_of c.args.base c.args.first) c.args.registers.now c.args.base c.args.memory.now) c.args.follower.now c.args.slots.now c.args.most c.requires.known;
  few = c.requires.few;
  small = c.requires.first;
  within = search rules;
}

pub make_step-requires-clause-known : goal.make_step-requires-clause-known
make_step-requires-clause-known g c =
    (known_word c.loop-left.slots c.loop-left.memory c.loop-left.number c.slot_at-slot.result.now c.loop-left.invariant.running.known c.loop-left.invariant.within c.slot_at-slot.ensures).bits

pub loop-left-preserved-in-On : goal.loop-left-preserved-in-On
loop-left-preserved-in-On g c =
    let base = c.args.base in
    let number = c.loop-left.number in
    let before = c.loop-left.memory in
    let written = c.make_step.new.memory in
    let changed = c.in-Some.ensures.changed in
    let made = at_word g.F.Follower.told _ _ _ _ _ _ _ _ _ _ c.in-Some.made c.of_word-at.ensures c.in-Some.ensures.made in
    let here = state_of (pc_of base number) c.loop-left.registers base before in
    let after = state_of (made_pc (pc_of base number) c.in-Some.made) c.make_step.new.registers base written in
    let more = more_slots c.loop-left.slots before number c.slot_at-slot.result.now here after c.loop-left.invariant.running.known c.slot_at-slot.ensures made.retires c.loop-left.invariant.within in
    counted_on g.F.Follower.told g.F.Follower.wants (state_of (pc_of base c.args.first) c.args.registers.now base c.args.memory.now) c.args.follower.now c.loop-left.slots c.loop-left.slots c.args.most c.loop-left.left base number (number + 1) c.loop-left.registers c.make_step.new.registers before written c.loop-left.follower c.make_step.new.follower c.slot_at-slot.result.now c.in-Some.made c.loop-left.invariant (search rules) (search rules) c.requires.aligned (search rules) (search rules) c.slot_at-slot.ensures made changed (subst (λ (m : List ℕ). AreKnown c.loop-left.slots m) (sym (subst (λ (m : Made). IsChanged before base m written) c.in-On.is changed)) c.loop-left.invariant.running.known) refl (ap (λ (m : Made). number_after base number m) (sym c.in-On.is)) more

pub loop-left-preserved-in-Stored : goal.loop-left-preserved-in-Stored
loop-left-preserved-in-Stored g c =
    let base = c.args.base in
    let number = c.loop-left.number in
    let before = c.loop-left.memory in
    let written = c.make_step.new.memory in
    let changed = c.in-Some.ensures.changed in
    let made = at_word g.F.Follower.told _ _ _ _ _ _ _ _ _ _ c.in-Some.made c.of_word-at.ensures c.in-Some.ensures.made in
    let here = state_of (pc_of base number) c.loop-left.registers base before in
    let after = state_of (made_pc (pc_of base number) c.in-Some.made) c.make_step.new.registers base written in
    let more = more_slots c.loop-left.slots before number c.slot_at-slot.result.now here after c.loop-left.invariant.running.known c.slot_at-slot.ensures made.retires c.loop-left.invariant.within in
    counted_on g.F.Follower.told g.F.Follower.wants (state_of (pc_of base c.args.first) c.args.registers.now base c.args.memory.now) c.args.follower.now c.loop-left.slots c.forget.new.slots c.args.most c.loop-left.left base number (number + 1) c.loop-left.registers c.make_step.new.registers before written c.loop-left.follower c.make_step.new.follower c.slot_at-slot.result.now c.in-Some.made c.loop-left.invariant (search rules) (search rules) c.requires.aligned (search rules) (search rules) c.slot_at-slot.ensures made changed (stored_known c.loop-left.slots c.forget.new.slots before written base c.in-Stored.place ((c.in-Stored.place + (2 ^ 32 - base)) % 2 ^ 32) (search rules) refl c.forget.ensures c.loop-left.invariant.running.known (subst (λ (m : Made). IsChanged before base m written) c.in-Stored.is changed)) c.forget.ensures.same_length (ap (λ (m : Made). number_after base number m) (sym c.in-Stored.is)) (omega (arith, more, c.forget.ensures.same_length))

pub loop-left-preserved : goal.loop-left-preserved
loop-left-preserved g c =
    let base = c.args.base in
    let number = c.loop-left.number in
    let before = c.loop-left.memory in
    let written = c.make_step.new.memory in
    let changed = c.in-Some.ensures.changed in
    let made = at_word g.F.Follower.told _ _ _ _ _ _ _ _ _ _ c.in-Some.made c.of_word-at.ensures c.in-Some.ensures.made in
    let target = c.in-To.target in
    let after : ℕ = (target + (2 ^ 32 - base)) % 2 ^ 32 / 4 in
    let known = subst (λ (m : List ℕ). AreKnown c.loop-left.slots m) (sym (subst (λ (m : Made). IsChanged before base m written) c.in-To.is changed).0) c.loop-left.invariant.running.known in
    counted_on g.F.Follower.told g.F.Follower.wants (state_of (pc_of base c.args.first) c.args.registers.now base c.args.memory.now) c.args.follower.now c.loop-left.slots c.loop-left.slots c.args.most c.loop-left.left base number after c.loop-left.registers c.make_step.new.registers before written c.loop-left.follower c.make_step.new.follower c.slot_at-slot.result.now c.in-Some.made c.loop-left.invariant (search rules) (search rules) c.requires.aligned (search rules) (search rules) c.slot_at-slot.ensures made changed known refl (ap (λ (m : Made). number_after base number m) (sym c.in-To.is)) (search rules)

pub returns-then-number-slots-clause-made : goal.returns-then-number-slots-clause-made
returns-then-number-slots-clause-made g c =
    let base = c.args.base in
    let number = c.loop-left.number in
    let before = c.loop-left.memory in
    let written = c.make_step.new.memory in
    let changed = c.in-Some.ensures.changed in
    let made = at_word g.F.Follower.told _ _ _ _ _ _ _ _ _ _ c.in-Some.made c.of_word-at.ensures c.in-Some.ensures.made in
    let target = c.in-To.target in
    let known = subst (λ (m : List ℕ). AreKnown c.loop-left.slots m) (sym (subst (λ (m : Made). IsChanged before base m written) c.in-To.is changed).0) c.loop-left.invariant.running.known in
    let from = state_of (pc_of base c.args.first) c.args.registers.now base c.args.memory.now in
    let next = running_on g.F.Follower.told g.F.Follower.wants from c.args.follower.now c.loop-left.slots c.loop-left.slots c.args.most c.loop-left.left base number c.loop-left.registers c.make_step.new.registers before written c.loop-left.follower c.make_step.new.follower c.slot_at-slot.result.now c.in-Some.made c.loop-left.invariant.running (search rules) (search rules) c.loop-left.invariant.within c.loop-left.invariant.few c.requires.aligned (search rules) (search rules) c.slot_at-slot.ensures made changed known in
    subst (λ (k : ℕ). IsFollowed g.F.Follower.told g.F.Follower.wants from c.args.follower.now (c.args.most - (c.loop-left.left - 1)) (state_of (pc_of base k) c.make_step.new.registers base written) c.make_step.new.follower) (ap (λ (m : Made). number_after base number m) c.in-To.is) next.made
