use Rattle.stream_model.proofs.Passing.{asking_sends, answering_sends, passes_end_done}
use Rattle.stream_model.proofs.laws.passes_send.Goals as goal

pub returns : goal.returns
returns c = record { asking = asking_sends; answering = answering_sends; done = passes_end_done }
