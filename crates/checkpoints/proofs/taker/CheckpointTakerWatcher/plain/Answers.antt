use Rattle.replayer.specs.Nexts.{seen_at}
use Rattle.checkpoints.proofs.taker.CheckpointTakerWatcher.plain.Goals as goal

pub returns : goal.returns
returns c was job made seen = c.note.ensures (seen_at c.args._time c.args.step) c.stored.ensures was job made seen
