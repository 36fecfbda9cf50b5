use Rattle.std.proofs.Common.{arith, ◌<◌, length, sym, subst}
use Rattle.source_labels.specs.Words.{log_of, node_words}
use Rattle.terms_ahead.proofs.Held.{next_more}
use Rattle.terms_ahead.proofs.ahead.next_ends.Goals as goal

pub loop-preserved : goal.loop-preserved
loop-preserved c =
    let log = log_of c.args.nodes.now in
    let next = c.loop.next.items in
    let room : length next < 64 = omega (arith, c.if-len-most.false, c.len.ensures, c.requires.few) in
    let stands = subst (node_words.stands c.args.nodes.now) (sym c.get.ensures) (c.requires.standing.at c.in-Some.there c.in-Some.ensures) in
    (next_more log c.args.node next _ _ c.loop.invariant.0 room stands c.in_ok-add_node.ensures, c.in-Some.ensures)
