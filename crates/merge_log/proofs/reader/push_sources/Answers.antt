use Rattle.std.proofs.Common.{arith}
use Rattle.merge_log.specs.declared.reader.Leaf.TheVariants as leaf
use Rattle.merge_log.proofs.Leaves.{one_pushed, all_pushed}
use Rattle.merge_log.proofs.reader.push_sources.Goals as goal

pub loop-byte-preserved : goal.loop-byte-preserved
loop-byte-preserved c =
    one_pushed leaf.Source c.args.leaves.now.items _ c.args.sources.now _ c.loop-byte.invariant _ _ c.loop-byte-test.true c.in_ok-push.ensures.items

pub returns : goal.returns
returns c =
    all_pushed leaf.Source c.args.leaves.now.items _ c.args.sources.now c.loop-byte.byte-index c.loop-byte.invariant (omega (arith, c.loop-byte-test.false))
