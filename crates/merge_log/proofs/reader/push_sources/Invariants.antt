use Rattle.std.proofs.Common.{◌≡◌, ◌++◌, map, take}
use Rattle.merge_log.specs.declared.reader.Leaf.TheVariants as leaf
use Rattle.merge_log.proofs.reader.push_sources.Given as goal

abbrev pub invariant-loop-byte : goal.invariant-loop-byte
invariant-loop-byte l = l.leaves.items ≡ l.fn.leaves.items ++ map leaf.Source (take l.byte-index l.sources)
