use Rattle.std.proofs.Common.{◌∙◌, sym, refl, arith}
use Rattle.std.proofs.lemmas.List.{take_all}
use Rattle.replay_log.proofs.KeptCalls.{held_each, kept_held}
use Rattle.replay_log.proofs.writing.can_write.Goals as goal

pub returns-then-not-is_kept : goal.returns-then-not-is_kept
returns-then-not-is_kept c =
    let same = c.records-call-items.ensures in
    let below = rw same at c.loop-call-test.true in
    let here = rw same at c.call-item.is in
    let no = sym c.if-not-is_kept.true in
    (λ e. absurd cc, λ held. no ∙ (rw c.inputs.ensures at c.is_kept.ensures).1 (held_each c.args.log.now held c.loop-call.call-index c.call-item.result below here))

pub returns : goal.returns
returns c =
    let all = rw (take_all c.loop-call.call-index c.records-call-items.result.now c.loop-call-test.false) at c.loop-call.invariant in
    (λ e. kept_held c.args.log.now (rw c.records-call-items.ensures at all) (omega (arith, c.size-size.ensures.length, c.size-size.ensures.limit)), λ held. refl)
