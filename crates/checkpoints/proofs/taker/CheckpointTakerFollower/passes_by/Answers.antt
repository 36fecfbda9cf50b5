use Rattle.std.proofs.Common.{ap}
use Rattle.checkpoints.specs.Touched.{size_stored}
use Rattle.checkpoints.proofs.Taking.{nothing_to_note}
use Rattle.checkpoints.proofs.taker.CheckpointTakerFollower.passes_by.Goals as goal

pub returns : goal.returns
returns c passes instr fits own none = nothing_to_note c.args.self.now instr 0 (ap size_stored none)
