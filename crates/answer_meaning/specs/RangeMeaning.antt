-- What a report in runs means of the bytes, along a run of the machine.
use Rattle.std.specs.Prelude.{◌≡◌, ◌+◌, List, [], ◌∷◌, length, All}
use Rattle.isa.specs.Machine.{State}
use Rattle.log_model.specs.declared.CallRecord.{CallRecord}
use Rattle.log_model.specs.Logs.{Log}
use Rattle.report_model.specs.Query.{Query, AreLocated}
use Rattle.report_model.specs.Rows.{Row, rows}
use Rattle.replay_model.specs.Run.{trace}
use Rattle.answer_meaning.specs.StepLaws.{OnlyMoves}
use Rattle.answer_meaning.specs.RunLaws.{IsRun, IsCopied, byte_at_sink}
use Rattle.source_ranges.specs.declared.SourceRange.{SourceRange}
use Rattle.source_ranges.specs.Ranges.{ranges_of}
use Rattle.range_report.specs.declared.RunKind.TheVariants.{Same, Changed}
use Rattle.range_report.specs.Runs.{output_rows, runs}
use Rattle.range_report.specs.RunLaws.{HasBytes}
use Rattle.range_report.specs.Text.{sources_of, written_in, received_in, kind_of}

-- no run of these rows is told as changed
abbrev pub NoneIsChanged : List CallRecord → List Row → Type 0
NoneIsChanged calls rs = All (λ run. kind_of calls run ≡ Changed → ⊥) (runs (output_rows rs))

-- where each row has no source, or one that its byte is
abbrev pub CopiedAreUnchanged : Type 0
CopiedAreUnchanged = (log : Log) (s : State) (rs : List Row) → All (λ r. IsCopied log (byte_at_sink s log r.sink) r.sources) rs → NoneIsChanged log.records rs

-- under a rule by which content is only moved
abbrev pub MovesAreUnchanged : Type 0
MovesAreUnchanged = (log : Log) (s : State) → IsRun log s → (q : Query) → OnlyMoves q.rule → AreLocated q.points
    → NoneIsChanged log.records (rows q (trace s log))

-- in a run of the machine, its calls moved all bytes of each line: those that were written, and those of each range
abbrev pub LinesAreMoved : Type 0
LinesAreMoved = (log : Log) (s : State) → IsRun log s → (q : Query)
    → All (λ run. All (HasBytes log.records run) (ranges_of (sources_of run))) (runs (output_rows (rows q (trace s log))))

-- the sources of a run are one range, as long as it, and the bytes that were written are those that were received there
pub record HoldsSameBytes (calls : List CallRecord) (run : List Row) : Type 0 where
  pub range : SourceRange
  pub alone : ranges_of (sources_of run) ≡ range ∷ []
  pub long : range.past ≡ range.from + length run
  pub same : written_in calls run ≡ received_in calls range

-- in a run of the machine, what a line with `=` wrote is what was received at its range
abbrev pub SameIsSame : Type 0
SameIsSame = (log : Log) (s : State) → IsRun log s → (q : Query)
    → All (λ run. kind_of log.records run ≡ Same → HoldsSameBytes log.records run) (runs (output_rows (rows q (trace s log))))
