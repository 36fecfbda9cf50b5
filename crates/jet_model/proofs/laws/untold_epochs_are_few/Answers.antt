use Rattle.jet_model.proofs.Lengths.{untold-few, untold-checked}
use Rattle.jet_model.proofs.laws.untold_epochs_are_few.Goals as goal

pub returns : goal.returns
returns c = record { few = untold-few; check = untold-checked }
