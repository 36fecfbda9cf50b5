use Rattle.replayer.specs.Jobs.{trace_of}
use Rattle.path_find.proofs.watching.PathWatchingRunWatcher.begin.Goals as goal

pub returns : goal.returns
returns c job stands first rule pair begun = record { pair_is = begun.pair_is; knows = begun.knows (trace_of job) }
