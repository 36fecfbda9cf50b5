-- How the words tell epochs to be analysed. No answer rests on it.
use Rattle.std.specs.Prelude.{ℕ, Option, Some, None, unwrap_or}
use Rattle.jet_words.specs.Commands.{CommandOf, AnalysisOf, ProductOf, StacksOf, DecisionsOf, PageOf, RecordOf, ConvertOf, CoreOf, QueriesOf, BenchOf}
use Rattle.epoch_engine.specs.declared.parallelism.Joining.{Joining}
use Rattle.epoch_engine.specs.declared.parallelism.Joining.TheVariants.{ByLinks, ByOneLog}

-- how many messages a link holds, where the words tell it or not
abbrev pub link_capacity : Option ℕ → ℕ
link_capacity told = unwrap_or told 256

-- how epochs are joined: by links, where the words tell the length of epochs or the capacity of links
abbrev pub joining_by : Option ℕ → Option ℕ → Joining
joining_by None None = ByOneLog
joining_by None (Some capacity) = ByLinks
joining_by (Some length) link = ByLinks

-- how many workers write the text of a command: those that analyse epochs, or one, where it analyses none
abbrev pub workers_by : CommandOf → ℕ
workers_by (AnalysisOf listing program log query pipeline) = pipeline.workers
workers_by (ProductOf product program log) = 1
workers_by (StacksOf program log times) = 1
workers_by (DecisionsOf program log query) = 1
workers_by (PageOf program log query page pipeline) = pipeline.workers
workers_by (RecordOf program log inputs pages piece steps) = 1
workers_by (ConvertOf program log new) = 1
workers_by (CoreOf program log time core) = 1
workers_by (QueriesOf program log queries pipeline) = pipeline.workers
workers_by (BenchOf seed steps pipeline) = pipeline.workers
