use Rattle.stream_model.proofs.NeverStill.{never_still, still_asking, still_answering}
use Rattle.stream_model.proofs.laws.never_still.Goals as goal

pub returns : goal.returns
returns c = record { moves = never_still; asking = still_asking; answering = still_answering }
