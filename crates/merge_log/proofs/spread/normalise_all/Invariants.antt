use Rattle.merge_log.proofs.Roots.{AreGiven}
use Rattle.merge_log.proofs.Sorting.{IsSetWith}
use Rattle.merge_log.proofs.spread.normalise_all.Given as goal

abbrev pub invariant-loop-root : goal.invariant-loop-root
invariant-loop-root l = AreGiven (λ r t u. IsSetWith t u) l.fn.found.items l.found.items l.root
