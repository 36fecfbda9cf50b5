use Rattle.std.proofs.Common.{◌≡◌, ◌≤◌, length, drop}
use Rattle.lists.specs.Sets.{is_within}
use Rattle.lists.proofs.sets.is_subset.Given as goal

-- what is left of both sets decides
abbrev pub invariant-loop-member : goal.invariant-loop-member
invariant-loop-member g l = record {
  in_range : l.found ≤ length l.few;
  same : is_within g.T.Ord.cmp (drop l.found l.few) (drop l.member-index l.many) ≡ is_within g.T.Ord.cmp l.few l.many;
}
