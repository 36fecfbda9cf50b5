use Rattle.record_model.proofs.Fronts.{inputs_in_order}
use Rattle.record_model.proofs.laws.inputs_are_read_in_order.Goals as goal

pub returns : goal.returns
returns c = inputs_in_order
