use Rattle.flow_model.specs.declared.Rule.TheVariants.{Index}
use Rattle.answer_meaning.proofs.Steps.{index_determines}
use Rattle.answer_meaning.proofs.Together.{same_steps, contents_are_same, path_is_same, received_is_same, rows_are_same}
use Rattle.answer_meaning.proofs.laws.undecided_runs_are_one_by_index.Goals as goal

pub returns : goal.returns
returns c = record {
  steps = same_steps Index index_determines;
  contents = contents_are_same Index index_determines;
  path = path_is_same Index index_determines;
  received = received_is_same Index index_determines;
  rows = rows_are_same Index index_determines;
}
