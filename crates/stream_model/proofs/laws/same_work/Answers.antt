use Rattle.stream_model.proofs.NodeWork.{done_nodes_work}
use Rattle.stream_model.proofs.Work.{same_work}
use Rattle.stream_model.proofs.laws.same_work.Goals as goal

pub returns : goal.returns
returns c = record { nodes = done_nodes_work; schedules = same_work }
