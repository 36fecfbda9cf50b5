use Rattle.std.proofs.Common.{ℕ, ◌+◌, ◌-◌, length, subst, arith}
use Rattle.summary_join.specs.Needs.{IsLookedAt}
use Rattle.summary_join.proofs.Looking.{looked_more}
use Rattle.summary_join.proofs.needs.look_through.Goals as goal

pub loop-past-preserved : goal.loop-past-preserved
loop-past-preserved c =
    let a = c.args in
    let l = c.loop-past in
    let log = a.log.now in
    looked_more log (length log + 1 - (l.past + 1)) (length log + 1 - l.past) a.marks.now.items a.asked.now l.marks.items l.asked c.look_at.new.marks.items c.look_at.new.asked
    (omega (arith, c.loop-past-test.true, c.size-size.ensures))
    l.invariant
    (subst (λ (size : ℕ). IsLookedAt log (size - l.past) l.marks.items l.asked c.look_at.new.marks.items c.look_at.new.asked) c.size-size.ensures c.in_ok-look_at.ensures)
