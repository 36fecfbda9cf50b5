use Rattle.std.proofs.Common.{sym, arith}
use Rattle.std.proofs.lemmas.Bool.{eqb-true, eqb-false}
use Rattle.replay_log.proofs.Loop.{starts, item_after, goes_on, is_done, is_trailing, is_record_fault, at_below}
use Rattle.replay_log.proofs.reading.records_of.Goals as goal

pub loop-first-init : goal.loop-first-init
loop-first-init c = rw c.new-records.ensures.items (starts c.args.version c.args.size c.args.left.now c.args.bytes.now c.requires)

pub returns-in-Err-clause-fault : goal.returns-in-Err-clause-fault
returns-in-Err-clause-fault c = rw c.at_offset.ensures (is_record_fault c.loop-first.invariant c.in-Err.fault c.in-Err.ensures.fault)

pub overflow_add-least : goal.overflow_add-least
overflow_add-least c = omega (arith, c.step_of-least.ensures, at_below (rw c.in-Call.is at c.in-Ok.ensures.ok))

pub loop-first-preserved : goal.loop-first-preserved
loop-first-preserved c =
    rw (c.in_ok-push-in-Call.ensures.items, c.step_of-least.ensures) (goes_on c.loop-first.invariant (rw c.in-Call.is at c.in-Ok.ensures.ok))

pub loop-first-smaller : goal.loop-first-smaller
loop-first-smaller c = item_after c.in-Ok.ensures.ok

pub returns-then-is_empty-clause-ok : goal.returns-then-is_empty-clause-ok
returns-then-is_empty-clause-ok c =
    is_done c.loop-first.invariant (rw c.in-End.is at c.in-Ok.ensures.ok) (eqb-true _ _ (sym c.if-is_empty.ensures))

pub returns-in-End-clause-fault : goal.returns-in-End-clause-fault
returns-in-End-clause-fault c =
    let some = eqb-false _ _ (sym c.if-is_empty.ensures) in
    is_trailing c.loop-first.invariant (rw c.in-End.is at c.in-Ok.ensures.ok) (omega arith)
