use Rattle.std.proofs.Common.{arith, refl, ◌<◌, ◌∙◌, ℕ, ap, sym, subst, List, length, slice_index}
use Rattle.merge_log.specs.Masks.{HasBit, IsClearFrom, found_at}
use Rattle.merge_log.proofs.Covering.{taken_room, clear_taken, all_taken, cover_ends, first_cover, no_bit, nothing_cover}
use Rattle.merge_log.proofs.spread.walk_many.Goals as goal

pub loop-node-init : goal.loop-node-init
loop-node-init c =
    let log = c.args.log.now in
    let masks = c.add_roots-past.new.masks.masks.items in
    record {
      below = c.add_roots-past.ensures.past;
      room = subst (λ (n : ℕ). length log < n) (sym c.add_roots-past.ensures.room) c.requires.room;
      clear = c.add_roots-past.ensures.above;
      sets = c.requires.sets;
      covers = λ r h. first_cover log (slice_index c.args.roots.now r) masks r (found_at c.args.found.now.items r) (c.requires.empty r) (c.add_roots-past.ensures.only r) (c.add_roots-past.ensures.all r h);
    }

pub spread-requires-clause-clear : goal.spread-requires-clause-clear
spread-requires-clause-clear c =
    let masks = c.last_below.new.self.masks.items in
    let inside : c.in-Some.node < length masks =
    omega (arith, ap length c.in-Some.ensures.kept, c.in-Some.ensures.below, c.loop-node.invariant.below, c.loop-node.invariant.room) in
    clear_taken _ masks _ c.in-Some.node c.in-Some.ensures.kept c.take-mask.ensures.taken inside c.in-Some.ensures.last

pub returns-clause-found : goal.returns-clause-found
returns-clause-found c r q h =
    let masks = c.loop-node.masks.masks.items in
    let none : IsClearFrom masks 0 = subst (λ (ms : List ℕ). IsClearFrom ms 0) c.in_default.ensures.kept (c.in_default.ensures.none refl) in
    cover_ends c.args.log.now (slice_index c.args.roots.now r) (HasBit masks r) (found_at c.loop-node.found.items r) (λ m k. no_bit masks 0 r m (omega arith) none k) (c.loop-node.invariant.covers r h) q

pub loop-node-preserved-in-Continue-1 : goal.loop-node-preserved-in-Continue-1
loop-node-preserved-in-Continue-1 c =
    let l = c.loop-node in
    let some = c.in-Some.ensures in
    let masks = c.last_below.new.self.masks.items in
    let inside : c.in-Some.node < length masks = omega (arith, ap length some.kept, some.below, l.invariant.below, l.invariant.room) in
    let less = taken_room _ masks _ c.in-Some.node some.kept c.take-mask.ensures.taken inside in
    let left =
    all_taken _ masks _ c.in-Some.node some.kept c.take-mask.ensures.taken inside c.args.log.now c.args.roots.now l.found.items _ c.take-mask.ensures.mask
    l.invariant.covers in
    record {
      below = omega (arith, some.below, l.invariant.below);
      room = omega (arith, c.in_ok-spread.ensures.room, less, l.invariant.room);
      clear = c.in_ok-spread.ensures.clear;
      sets = c.in_ok-spread.ensures.sets ∙ l.invariant.sets;
      covers = λ r h. c.in_ok-spread.ensures.covers r (slice_index c.args.roots.now r) (omega (arith, h, l.invariant.sets)) (left r h);
    }

pub loop-node-preserved : goal.loop-node-preserved
loop-node-preserved c =
    let l = c.loop-node in
    let some = c.in-Some.ensures in
    let masks = c.last_below.new.self.masks.items in
    let inside : c.in-Some.node < length masks = omega (arith, ap length some.kept, some.below, l.invariant.below, l.invariant.room) in
    let less = taken_room _ masks _ c.in-Some.node some.kept c.take-mask.ensures.taken inside in
    let left =
    all_taken _ masks _ c.in-Some.node some.kept c.take-mask.ensures.taken inside c.args.log.now c.args.roots.now l.found.items _ c.take-mask.ensures.mask
    l.invariant.covers in
    record {
      below = omega (arith, some.below, l.invariant.below);
      room = omega (arith, less, l.invariant.room);
      clear = clear_taken _ masks _ c.in-Some.node some.kept c.take-mask.ensures.taken inside some.last;
      sets = l.invariant.sets;
      covers = λ r h. nothing_cover _ _ _ c.in-Some.node _ r _ (omega (arith, c.if-node-gt0.false)) (left r h);
    }
