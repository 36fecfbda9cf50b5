use Rattle.std.proofs.Common.{◌≡◌, ◌≤◌, ◌+◌, ◌-◌, ◌++◌, length, drop}
use Rattle.lists.specs.Sets.{union}
use Rattle.lists.proofs.sets.push_union.Given as goal

-- what there is so far, and the union of what is left, make what there was and the whole union
abbrev pub invariant-loop-i : goal.invariant-loop-i
invariant-loop-i g l = record {
  left : l.i ≤ length l.left;
  right : l.j ≤ length l.right;
  merged : l.all.items ++ union g.T.Ord.cmp (drop l.i l.left) (drop l.j l.right) ≡ l.fn.all.items ++ union g.T.Ord.cmp l.left l.right;
}

abbrev pub decreases-loop-i : goal.decreases-loop-i
decreases-loop-i g l = (length l.left - l.i) + (length l.right - l.j)
