use Rattle.sink_collect.proofs.Reaching.{AreRaised}
use Rattle.sink_collect.proofs.influence.add_range.Given as goal

abbrev pub invariant-loop-place : goal.invariant-loop-place
invariant-loop-place l = AreRaised l.sink l.first l.place l.initial.reaches l.reaches
