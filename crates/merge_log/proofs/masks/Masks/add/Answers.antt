use Rattle.std.proofs.Common.{ℕ, ap}
use Rattle.std.specs.Int.RustNames.{bit_or}
use Rattle.std.proofs.Math.ListN.{set}
use Rattle.std.proofs.lemmas.List.{get_or_read}
use Rattle.merge_log.proofs.Blocks.{block_marked, below_marked}
use Rattle.merge_log.proofs.masks.Masks.add.Goals as goal

pub invariant_of-self : goal.invariant_of-self
invariant_of-self c =
    let s = c.args.self.now in
    record {
      marked = block_marked s.masks.items s.blocks.items c.args.node _ s.marked c.requires;
      below = below_marked s.masks.items s.first c.args.node _ c.min-self.result s.below c.min-self.ensures;
    }

pub returns : goal.returns
returns c =
    let s = c.args.self.now in
    let node = c.args.node in
    ap (λ (mask : ℕ). set s.masks.items node (bit_or mask c.args.mask)) (get_or_read s.masks.items node c.index_mut.result.now c.requires c.index_mut.ensures.value 0)
