use Rattle.std.proofs.Common.{◌≡◌, map, take}
use Rattle.epoch_model.specs.Join.{answer_to, resolved_row}
use Rattle.source_labels.specs.Words.{log_of}
use Rattle.terms_ahead.specs.Ahead.{IsOfLog}
use Rattle.epoch_summary.specs.Summaries.{named}
use Rattle.answer_sets.proofs.sink_rows.rows_of_sinks.Given as goal

abbrev pub invariant-loop-number : goal.invariant-loop-number
invariant-loop-number l = record {
  made : l.rows.items ≡ take l.number (map (resolved_row (answer_to l.asked l.answers)) (map (named l.nodes) l.sinks));
  ahead : IsOfLog (log_of l.nodes) l.ahead;
}
