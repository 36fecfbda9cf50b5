use Rattle.std.proofs.Common.{arith, ◌∙◌, ap, List, length-append}
use Rattle.merge_log.specs.declared.finding.FoundLeaves.{FoundLeaves}
use Rattle.merge_log.specs.Masks.{found_at}
use Rattle.merge_log.proofs.Roots.{empty_terms, empty_more}
use Rattle.merge_log.proofs.spread.empty_sets.Goals as goal

pub loop-preserved : goal.loop-preserved
loop-preserved c =
    record {
      within = omega (arith, c.loop-test.true);
      sets = rw c.in_ok-push.ensures.items (rw length-append (omega (arith, c.loop.invariant.sets)));
      empty = λ r. ap (λ (fs : List FoundLeaves). found_at fs r) c.in_ok-push.ensures.items ∙ empty_more c.loop.found.items _ (empty_terms c.new.result c.new.ensures.runs c.new.ensures.starts) c.loop.invariant.empty r;
    }
