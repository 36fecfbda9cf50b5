use Rattle.source_labels.specs.Words.{log_of}
use Rattle.terms_ahead.specs.Ahead.{AreNext}
use Rattle.terms_ahead.proofs.ahead.next_sinks.Given as goal

abbrev pub invariant-loop-number : goal.invariant-loop-number
invariant-loop-number l = AreNext (log_of l.nodes) l.node l.next.items
