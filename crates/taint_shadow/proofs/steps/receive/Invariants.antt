use Rattle.std.specs.Prelude.{◌-◌}
use Rattle.report_model.specs.Query.{policy_of}
use Rattle.taint_shadow.proofs.Received.{IsReceived}
use Rattle.taint_shadow.proofs.steps.receive.Given as goal

abbrev pub invariant-loop-number : goal.invariant-loop-number
invariant-loop-number g l = IsReceived g.A.Labels.words (policy_of l.query) l.call l.initial.labels l.initial.places l.labels l.places l.number

abbrev pub decreases-loop-number : goal.decreases-loop-number
decreases-loop-number g l = l.call.length - l.number
