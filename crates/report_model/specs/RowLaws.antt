-- What is always true of rows.
use Rattle.std.specs.Prelude.{◌≡◌, ◌≤◌, Bool, true, List, length, All, Contains}
use Rattle.std.specs.List.{list_any}
use Rattle.std.specs.Ordering.{is_eq}
use Rattle.flow_model.specs.declared.SourceByte.{SourceByte}
use Rattle.flow_model.specs.declared.InnerSink.{InnerSink}
use Rattle.flow_model.specs.declared.SinkPoint.{SinkPoint}
use Rattle.flow_model.specs.declared.SinkPoint.TheVariants.{At}
use Rattle.flow_model.specs.declared.StepSeen.{StepSeen}
use Rattle.lists.specs.Sets.{Ascends}
use Rattle.flow_model.specs.Orders.{point_cmp}
use Rattle.flow_model.specs.Origins.{origins}
use Rattle.report_model.specs.Query.{Query, Alike, has_sink, policy_of}
use Rattle.report_model.specs.Rows.{Row, rows, rows_as_written, row_cmp}

-- alike queries have the same rows, over each trace
abbrev pub AlikeHaveSameRows : Type 0
AlikeHaveSameRows = (q p : Query) (trace : List StepSeen) → Alike q p → rows q trace ≡ rows p trace

-- rows ascend by their output bytes and points, and so each has one row
abbrev pub RowsAscend : Type 0
RowsAscend = (q : Query) (trace : List StepSeen) → Ascends row_cmp (rows q trace)

-- each row is one of the run, and of an output byte or a point that the query chooses
abbrev pub RowsWereWritten : Type 0
RowsWereWritten = (q : Query) (trace : List StepSeen) → All (λ r. Contains (rows_as_written q trace) r × (has_sink q r.sink ≡ true)) (rows q trace)

-- one of the rows is that of the output byte or point
abbrev pub has_row : SinkPoint → List Row → Bool
has_row s rs = list_any (λ r. is_eq (point_cmp s r.sink)) rs

-- the rows are of the same output bytes and points in either order
abbrev pub NoRowIsMissing : Type 0
NoRowIsMissing = (q : Query) (trace : List StepSeen) (s : SinkPoint) → has_row s (rows q trace) ≡ has_row s (rows_as_written q trace)

-- the source bytes of a point: those that its location came from, after as many steps as its time says
abbrev pub sources_at : Query → List StepSeen → InnerSink → List SourceByte
sources_at q trace p = origins (policy_of q) trace p.time p.loc

-- a point of the query that is no later than the end of the run has a row, of its source bytes
abbrev pub PointHasRow : Query → List StepSeen → InnerSink → Type 0
PointHasRow q trace p = Contains q.points p → p.time ≤ length trace → Contains (rows q trace) (record { sink = At p; sources = sources_at q trace p })

-- a row of the point: so the query has the point, it is no later than the end of the run, and these are its source bytes
pub record IsRowOfPoint (q : Query) (trace : List StepSeen) (p : InnerSink) (r : Row) : Type 0 where
  pub chosen : Contains q.points p
  pub inside : p.time ≤ length trace
  pub sources : r.sources ≡ sources_at q trace p

abbrev pub RowIsOfPoint : Query → List StepSeen → InnerSink → Type 0
RowIsOfPoint q trace p = All (λ r. r.sink ≡ At p → IsRowOfPoint q trace p r) (rows q trace)

-- the points with rows are those of the query up to the end of the run
abbrev pub PointsHaveRows : Type 0
PointsHaveRows = (q : Query) (trace : List StepSeen) (p : InnerSink) → PointHasRow q trace p × RowIsOfPoint q trace p
