use Rattle.merge_log.proofs.Blocks.{block_left}
use Rattle.merge_log.proofs.masks.Masks.leave.Goals as goal

pub invariant_of-self : goal.invariant_of-self
invariant_of-self c =
    let s = c.args.self.now in
    record { marked = block_left s.masks.items s.blocks.items c.args.past s.marked c.if-past-eq0.true c.requires.clear; below = s.below }
