use Rattle.std.proofs.Common.{ap}
use Rattle.checkpoints.specs.Touched.{size_stored}
use Rattle.checkpoints.proofs.Taking.{nothing_to_note}
use Rattle.checkpoints.proofs.taker.CheckpointTakerFollower.follow.Goals as goal

pub returns : goal.returns
returns c = nothing_to_note c.args.self.now c.args._instr.now 0 (ap size_stored c.requires.none)
