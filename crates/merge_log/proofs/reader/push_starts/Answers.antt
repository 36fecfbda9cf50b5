use Rattle.std.proofs.Common.{arith}
use Rattle.merge_log.specs.declared.reader.Leaf.TheVariants as leaf
use Rattle.merge_log.proofs.Leaves.{one_pushed, all_pushed}
use Rattle.merge_log.proofs.reader.push_starts.Goals as goal

pub loop-loc-preserved : goal.loop-loc-preserved
loop-loc-preserved c =
    one_pushed leaf.Start c.args.leaves.now.items _ c.args.starts.now _ c.loop-loc.invariant _ _ c.loop-loc-test.true c.in_ok-push.ensures.items

pub returns : goal.returns
returns c = all_pushed leaf.Start c.args.leaves.now.items _ c.args.starts.now c.loop-loc.loc-index c.loop-loc.invariant (omega (arith, c.loop-loc-test.false))
