-- Rows are of bytes that the calls of a run moved.
use Rattle.std.specs.Prelude.{◌<◌, length, All}
use Rattle.isa.specs.Machine.{State}
use Rattle.log_model.specs.Logs.{Log}
use Rattle.log_model.specs.Moved.{received, written}
use Rattle.flow_model.specs.declared.SourceByte.{SourceByte}
use Rattle.flow_model.specs.declared.SinkPoint.{SinkPoint}
use Rattle.flow_model.specs.declared.SinkPoint.TheVariants.{Out, At}
use Rattle.report_model.specs.Query.{Query}
use Rattle.report_model.specs.Rows.{Row, rows}
use Rattle.replay_model.specs.Run.{trace}
use Rattle.answer_meaning.specs.RunLaws.{IsRun}

-- the calls of a log received the source byte
abbrev pub WasReceived : Log → SourceByte → Type 0
WasReceived log b = b.offset < length (received b.channel log.records)

-- and wrote the output byte; a point is written by no call
abbrev pub WasWritten : Log → SinkPoint → Type 0
WasWritten log (Out b) = b.offset < length (written b.channel log.records)
WasWritten log (At p) = Unit {0}

-- a row whose output byte was written, if it is of one, and whose sources were received
pub record IsOfMovedBytes (log : Log) (r : Row) : Type 0 where
  pub sink : WasWritten log r.sink
  pub sources : All (WasReceived log) r.sources

-- so is each row of a run, by every rule
abbrev pub RowsAreOfMovedBytes : Type 0
RowsAreOfMovedBytes = (log : Log) (s : State) → IsRun log s → (q : Query) → All (IsOfMovedBytes log) (rows q (trace s log))
