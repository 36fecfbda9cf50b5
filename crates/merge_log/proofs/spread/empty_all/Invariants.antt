use Rattle.std.proofs.Common.{◌≡◌}
use Rattle.merge_log.specs.Log.{no_terms}
use Rattle.merge_log.proofs.Roots.{AreGiven}
use Rattle.merge_log.proofs.spread.empty_all.Given as goal

abbrev pub invariant-loop-root : goal.invariant-loop-root
invariant-loop-root l = AreGiven (λ r t u. u ≡ no_terms) l.fn.found.items l.found.items l.root
