use Rattle.std.proofs.Common.{arith, ◌<◌, length}
use Rattle.source_labels.specs.Words.{log_of}
use Rattle.terms_ahead.proofs.Held.{next_more}
use Rattle.terms_ahead.proofs.ahead.next_sinks.Goals as goal

pub loop-number-preserved : goal.loop-number-preserved
loop-number-preserved c =
    let next = c.loop-number.next.items in
    let room : length next < 64 = omega (arith, c.if-len-most.false, c.len.ensures, c.requires.few) in
    next_more (log_of c.args.nodes.now) c.args.node next _ _ c.loop-number.invariant room (c.requires.named c.loop-number.number _ (omega (arith, c.loop-number-test.true))) c.in_ok-add_node.ensures
