use Rattle.flow_model.specs.declared.Rule.TheVariants.{Index}
use Rattle.answer_meaning.proofs.Runs.{determined_rows, determined_contents}
use Rattle.answer_meaning.proofs.Steps.{index_determines}
use Rattle.answer_meaning.proofs.laws.index_loses_no_flow.Goals as goal

pub returns : goal.returns
returns c = record {
  contents = determined_contents Index index_determines;
  rows = determined_rows Index index_determines;
}
