use Rattle.log_model.specs.Logs.{Log}
use Rattle.flow_model.specs.declared.SourceByte.{SourceByte}
use Rattle.report_model.specs.Rows.{Row}
use Rattle.report_model.specs.Text.{report_text}
use Rattle.report_model.specs.Influence.{influence_text}
use Rattle.std.proofs.Common.{List}
use Rattle.range_report.specs.Text.{ranges_report}
use Rattle.path_find.specs.declared.writing.End.{End}
use Rattle.path_find.specs.declared.writing.Stop.{Stop}
use Rattle.path_find.specs.Text.{path_text}
use Rattle.decision_find.specs.Text.{decisions_text}
use Rattle.run_output.specs.Calls.{calls_text}
use Rattle.run_output.specs.Stack.{pcs_text}
use Rattle.run_output.specs.Summary.{summary_text}
use Rattle.answer_meaning.proofs.TextReading.{are_prefix_free}
use Rattle.answer_meaning.proofs.TextLines.{report, influence, ranges, path, decisions, calls_of, stack, numbers}
use Rattle.answer_meaning.proofs.TextParts.{stacks}
use Rattle.answer_meaning.proofs.laws.no_front_is_a_text.Goals as goal

pub returns : goal.returns
returns c = record {
  report = are_prefix_free report_text report;
  influence = are_prefix_free influence_text influence;
  ranges = are_prefix_free (λ (x : Log × List Row). ranges_report x.0 x.1) (λ x. ranges x.0 x.1);
  path = are_prefix_free (λ (x : SourceByte × End × List Stop). path_text x.0 x.1 x.2) (λ x. path x.0 x.1 x.2);
  decisions = are_prefix_free decisions_text decisions;
  calls = are_prefix_free calls_text calls_of;
  stack = are_prefix_free pcs_text stack;
  stacks = stacks;
  numbers = are_prefix_free summary_text numbers;
}
