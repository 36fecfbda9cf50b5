use Rattle.checkpoints.proofs.taker.CheckpointTakerWatcher.step.Goals as goal

pub returns : goal.returns
returns c was job made seen = c.note.ensures c.args.step.now c.written.ensures was job made seen
