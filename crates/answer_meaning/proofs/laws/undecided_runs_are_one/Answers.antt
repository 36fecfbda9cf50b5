use Rattle.flow_model.specs.declared.Rule.TheVariants.{Compute}
use Rattle.answer_meaning.proofs.Steps.{compute_determines}
use Rattle.answer_meaning.proofs.Together.{same_steps, contents_are_same, path_is_same, received_is_same, rows_are_same}
use Rattle.answer_meaning.proofs.laws.undecided_runs_are_one.Goals as goal

pub returns : goal.returns
returns c = record {
  steps = same_steps Compute compute_determines;
  contents = contents_are_same Compute compute_determines;
  path = path_is_same Compute compute_determines;
  received = received_is_same Compute compute_determines;
  rows = rows_are_same Compute compute_determines;
}
