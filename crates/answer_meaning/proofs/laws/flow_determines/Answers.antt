use Rattle.answer_meaning.proofs.Steps.{compute_determines, index_determines, received_is_there}
use Rattle.answer_meaning.proofs.laws.flow_determines.Goals as goal

pub returns : goal.returns
returns c = record { compute = compute_determines; index = index_determines; received = received_is_there }
