use Rattle.std.proofs.Common.{arith, ◌≡◌, ◌<◌, ◌≤◌, ◌+◌, ◌*◌, ◌^◌, ◌%◌, length, max, ◌∙◌, refl, sym, subst, slice_index}
use Rattle.std.proofs.lemmas.List.{length-set}
use Rattle.merge_log.specs.Masks.{IsClearFrom}
use Rattle.merge_log.proofs.Covering.{AreRoots, added, root_added}
use Rattle.merge_log.proofs.spread.add_roots.Goals as goal

pub loop-root-preserved : goal.loop-root-preserved
loop-root-preserved c =
    let masks = c.loop-root.masks.masks.items in
    let roots = c.args.roots.now in
    let root = c.loop-root.root in
    let few : root < 64 = omega (arith, c.loop-root-test.true, c.requires.few) in
    let within : slice_index roots root ≤ length c.args.log.now = c.requires.stand root 0 c.loop-root-test.true in
    let inside : slice_index roots root < length masks = omega (arith, within, c.loop-root.invariant.room, c.requires.room) in
    let before : AreRoots c.loop-root.past roots masks root = record { above = c.loop-root.invariant.above; only = c.loop-root.invariant.only; all = c.loop-root.invariant.all } in
    let next = root_added c.loop-root.past roots masks root (slice_index roots root) refl few inside before in
    let most : c.max-past.result ≡ max (slice_index roots root + 1) c.loop-root.past = c.max-past.ensures in
    rw c.add.ensures
    (record {
      room = length-set masks _ _ ∙ c.loop-root.invariant.room;
      past = omega (arith, within, most, c.loop-root.invariant.past);
      above = subst (IsClearFrom (added masks (slice_index roots root) (1 * 2 ^ root % 2 ^ 64))) (sym most) next.above;
      only = next.only;
      all = next.all;
    })
