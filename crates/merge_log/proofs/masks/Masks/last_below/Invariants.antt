use Rattle.std.proofs.Common.{◌≡◌, ◌≤◌}
use Rattle.merge_log.specs.Masks.{IsClearFrom}
use Rattle.merge_log.proofs.masks.Masks.last_below.Given as goal

-- no node from `past` on has a mask
abbrev pub invariant-loop-self : goal.invariant-loop-self
invariant-loop-self l = record {
  within : l.past ≤ l.fn.limit;
  kept : l.self.masks.items ≡ l.fn.self.masks.items;
  clear : IsClearFrom l.self.masks.items l.past;
}

abbrev pub decreases-loop-self : goal.decreases-loop-self
decreases-loop-self l = l.past
