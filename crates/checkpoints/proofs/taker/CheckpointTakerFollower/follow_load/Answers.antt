use Rattle.checkpoints.proofs.Taking.{load_stores, nothing_to_note}
use Rattle.checkpoints.proofs.taker.CheckpointTakerFollower.follow_load.Goals as goal

pub returns : goal.returns
returns c instr fits is = nothing_to_note c.args.self.now instr c.args._place (load_stores instr c.args._load is)
