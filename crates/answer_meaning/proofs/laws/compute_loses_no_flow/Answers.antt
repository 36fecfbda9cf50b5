use Rattle.flow_model.specs.declared.Rule.TheVariants.{Compute}
use Rattle.answer_meaning.proofs.Runs.{determined_rows, determined_contents, same_trace}
use Rattle.answer_meaning.proofs.Steps.{compute_determines}
use Rattle.answer_meaning.proofs.laws.compute_loses_no_flow.Goals as goal

pub returns : goal.returns
returns c = record {
  contents = determined_contents Compute compute_determines;
  rows = determined_rows Compute compute_determines;
  trace = same_trace;
}
