use Rattle.run_output.proofs.Parts.{alone}
use Rattle.run_output.proofs.laws.parts_are_the_texts_alone.Goals as goal

pub returns : goal.returns
returns c = alone
