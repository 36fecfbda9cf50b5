use Rattle.std.proofs.Common.{◌≡◌, ◌++◌, map, take}
use Rattle.merge_log.specs.declared.reader.Leaf.TheVariants as leaf
use Rattle.merge_log.proofs.reader.push_starts.Given as goal

abbrev pub invariant-loop-loc : goal.invariant-loop-loc
invariant-loop-loc l = l.leaves.items ≡ l.fn.leaves.items ++ map leaf.Start (take l.loc-index l.starts)
