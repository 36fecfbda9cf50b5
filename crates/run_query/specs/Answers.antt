-- The answer of a query over a run that is cut into epochs.
use Rattle.std.specs.Prelude.{◌≡◌, ℕ, List}
use Rattle.report_model.specs.Query.{Query}
use Rattle.report_model.specs.Rows.{rows}
use Rattle.stream_model.specs.Work.{run_work}
use Rattle.replayer.specs.Jobs.{Job, trace_of}
use Rattle.sink_collect.specs.Pairs.{capped}
use Rattle.run_query.specs.Crossings.{crossed}
use Rattle.run_query.specs.declared.answer.QueryAnswer.{QueryAnswer}

-- these are the rows of the run of a job that is cut so, what crosses each inner cut, and how many events move
pub record IsAnswerTo (q : Query) (job : Job) (cuts : List ℕ) (answer : QueryAnswer) : Type 0 where
  pub report : answer.report ≡ rows q (trace_of job)
  pub crossings : answer.crossed.items ≡ crossed q (trace_of job) cuts
  pub events : answer.events ≡ capped (run_work q (trace_of job) cuts)
