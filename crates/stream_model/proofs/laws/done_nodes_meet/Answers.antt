use Rattle.stream_model.proofs.Meeting.{done_nodes_meet}
use Rattle.stream_model.proofs.laws.done_nodes_meet.Goals as goal

pub returns : goal.returns
returns c = done_nodes_meet
