use Rattle.flow_model.specs.Ranges.{IsLocation}
use Rattle.source_labels.specs.Words.{log_of}
use Rattle.terms_ahead.specs.Ahead.{AreNext}
use Rattle.terms_ahead.proofs.ahead.next_ends.Given as goal

abbrev pub invariant-loop : goal.invariant-loop
invariant-loop l = AreNext (log_of l.nodes) l.node l.next.items × IsLocation l.here
