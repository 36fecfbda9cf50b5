use Rattle.std.proofs.Common.{◌≡◌, ◌++◌, reverse, vec_len}
use Rattle.std.specs.List.{flat_map}
use Rattle.epoch_layout.proofs.collecting.in_order.Given as goal

abbrev pub invariant-loop-next : goal.invariant-loop-next
invariant-loop-next l = l.all ++ flat_map (λ rows. rows) (reverse l.sets.items) ≡ flat_map (λ rows. rows) (reverse l.fn.sets.items)

abbrev pub decreases-loop-next : goal.decreases-loop-next
decreases-loop-next l = vec_len l.sets
