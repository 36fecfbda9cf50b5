use Rattle.std.proofs.Common.{arith, ◌<◌, length, refl}
use Rattle.merge_log.proofs.Roots.{empty_terms, given_next, given_all}
use Rattle.merge_log.proofs.spread.empty_all.Goals as goal

pub loop-root-preserved : goal.loop-root-preserved
loop-root-preserved c =
    let within : c.loop-root.root < length c.loop-root.found.items = omega (arith, c.loop-root-test.true, c.len-root-end.ensures, c.loop-root.invariant.sets) in
    given_next _ _ _ _ c.loop-root.invariant c.clear.new.self within (empty_terms c.clear.new.self c.clear.ensures.runs c.clear.ensures.starts)

pub returns-clause-empty : goal.returns-clause-empty
returns-clause-empty c =
    given_all _ _ _ _ c.loop-root.invariant (omega (arith, c.loop-root-test.false, c.len-root-end.ensures, c.loop-root.invariant.sets)) (λ r. refl)
