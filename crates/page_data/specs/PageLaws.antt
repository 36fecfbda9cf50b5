-- What is always true of the data of pages.
use Rattle.std.specs.Prelude.{◌≡◌, ◌<◌, ◌^◌, List}
use Rattle.std.specs.List.{AllByRecursion}
use Rattle.isa.specs.Machine.{State}
use Rattle.log_model.specs.Logs.{Log, IsLog}
use Rattle.flow_model.specs.declared.Loc.{Loc}
use Rattle.flow_model.specs.declared.Loc.TheVariants.{Reg, Mem}
use Rattle.flow_model.specs.declared.SourceByte.{SourceByte}
use Rattle.flow_model.specs.declared.SinkPoint.{SinkPoint}
use Rattle.flow_model.specs.declared.SinkPoint.TheVariants.{Out, At}
use Rattle.report_model.specs.Query.{Query, Alike, AreLocated}
use Rattle.report_model.specs.Rows.{Row, rows}
use Rattle.replay_model.specs.Run.{trace}
use Rattle.page_data.specs.Data.{Asked, data_text, page_data}
use Rattle.page_data.specs.Page.{page_report}

-- ---- the numbers in rows are below 2^72

abbrev pub HasSmallLoc : Loc → Type 0
HasSmallLoc (Reg r i) = (r < 2 ^ 72) × (i < 2 ^ 72)
HasSmallLoc (Mem a) = a < 2 ^ 72

abbrev pub IsSmallSink : SinkPoint → Type 0
IsSmallSink (Out b) = (b.channel < 2 ^ 72) × (b.offset < 2 ^ 72)
IsSmallSink (At p) = HasSmallLoc p.loc × (p.time < 2 ^ 72)

abbrev pub IsSmallSource : SourceByte → Type 0
IsSmallSource b = (b.channel < 2 ^ 72) × (b.offset < 2 ^ 72)

abbrev pub IsSmallRow : Row → Type 0
IsSmallRow r = IsSmallSink r.sink × AllByRecursion IsSmallSource r.sources

-- ---- the laws

-- pages with the same data are of the same report, whatever they are of beside it
abbrev pub DataTellReports : Type 0
DataTellReports = (a b : Asked) (log k : Log) (rs ss : List Row)
    → AllByRecursion IsSmallRow rs → AllByRecursion IsSmallRow ss
    → data_text a log rs ≡ data_text b k ss → rs ≡ ss

-- the numbers in the rows of a query over the run of a log are so small, where its points are at locations, as those of each
-- query text are
abbrev pub RowsAreSmall : Type 0
RowsAreSmall = (q : Query) (state : State) (log : Log) → AreLocated q.points → IsLog log → AllByRecursion IsSmallRow (rows q (trace state log))

-- so pages that are the same are of the same report: a page tells the whole report
abbrev pub PagesTellReports : Type 0
PagesTellReports = (q p : Query) (state other : State) (log k : Log)
    → AreLocated q.points → AreLocated p.points → IsLog log → IsLog k
    → page_report q state log ≡ page_report p other k → rows q (trace state log) ≡ rows p (trace other k)

-- queries that are alike have the same data
abbrev pub AlikeHaveSameData : Type 0
AlikeHaveSameData = (q p : Query) (state : State) (log : Log)
    → Alike q p → page_data q state log ≡ page_data p state log
