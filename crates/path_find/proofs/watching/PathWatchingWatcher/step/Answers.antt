use Rattle.replayer.specs.Jobs.{trace_of}
use Rattle.path_find.proofs.watching.PathWatchingWatcher.step.Goals as goal

pub returns : goal.returns
returns c was job made seen rule pair begun = c.follow.ensures rule pair (trace_of job) made.step (seen rule pair begun)
