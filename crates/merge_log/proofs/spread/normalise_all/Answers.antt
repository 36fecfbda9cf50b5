use Rattle.std.proofs.Common.{arith, ap, ◌∙◌, ◌<◌, length}
use Rattle.merge_log.specs.Walk.{has_leaf}
use Rattle.merge_log.proofs.Roots.{given_next, given_all, found_lent}
use Rattle.merge_log.proofs.Sorting.{none_is_set}
use Rattle.merge_log.proofs.spread.normalise_all.Goals as goal

pub loop-root-preserved : goal.loop-root-preserved
loop-root-preserved c =
    let l = c.loop-root in
    let within : l.root < length l.found.items = omega (arith, c.loop-root-test.true, c.len-root-end.ensures, l.invariant.sets) in
    given_next _ _ _ _ l.invariant c.normalise.new.self within
    (record {
      members =
          λ q. c.in_ok-normalise.ensures.members q ∙ ap (has_leaf q) (found_lent l.found.items l.root c.index_mut.result.now within c.index_mut.ensures.value);
      ascending = c.in_ok-normalise.ensures.ascending;
    })

pub returns : goal.returns
returns c =
    let l = c.loop-root in
    let all = given_all _ _ _ _ l.invariant (omega (arith, c.loop-root-test.false, c.len-root-end.ensures, l.invariant.sets)) (λ r. none_is_set) in
    record { sets = l.invariant.sets; members = λ r. (all r).members; ascending = λ r. (all r).ascending }
