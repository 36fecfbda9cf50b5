use Rattle.std.proofs.Common.{◌≡◌, ◌<◌, ◌≤◌, ℕ, ◌+◌, ◌*◌, List, length, get_or, arith, refl}
use Rattle.epoch_summary.proofs.Slotting.{keys_after, made_filled, made_kept}
use Rattle.epoch_summary.proofs.place_table.PlaceTable.make_block.Goals as goal

pub invariant_of-self-2 : goal.invariant_of-self-2
invariant_of-self-2 c =
    let s = c.args.self.now in
    let more : List ℕ = c.resize.new.self.items in
    let after : List ℕ = c.insert_full.new.self.keys in
    let keys : List ℕ = s.blocks.keys in
    let index = c.in_ok-resize.ensures.by_index in
    let count = c.len-block.ensures.len in
    let old = s.slots.ok in
    let new = c.resize.new.self.ok in
    let sized = c.in_ok-resize.ensures.len in
    let same : (i d : ℕ) → i < 64 * (length keys + 1) → i < length s.slots.items → get_or more i d ≡ get_or s.slots.items i d =
    λ i d h k. index.0 i d (omega (arith, h, count)) (omega (arith, k, old)) in
    let fresh : (i d : ℕ) → length s.slots.items ≤ i → i < 64 * (length keys + 1) → get_or more i d ≡ 0 =
    λ i d h k. index.1 i d refl (omega (arith, h, old)) (omega (arith, k, count)) in
    let size : length more ≡ 64 * (length keys + 1) = omega (arith, count, new, sized) in
    let is = keys_after c.insert_full.result keys after c.args.key c.insert_full.ensures.keys c.insert_full.ensures.err c.requires in
    record {
      filled = made_filled keys s.slots.items more after c.args.key s.filled same fresh size is;
      last_found = λ b e. made_kept keys s.slots.items more after c.args.key s.filled same fresh size is b.key b.first (s.last_found b e);
    }
