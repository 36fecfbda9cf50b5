-- The path that an answer tells: of a source byte to an output byte, or to a point inside the run.
use Rattle.std.specs.Prelude.{◌≡◌, ℕ, ◌+◌, nat_le, ◌&&◌, if◌then◌else◌, ◌↔◌, All, List, [], ◌∷◌, ◌++◌, length, Option, Some, None, Contains}
use Rattle.std.specs.List.{find}
use Rattle.std.specs.Ordering.{is_eq}
use Rattle.flow_model.specs.declared.Rule.{Rule}
use Rattle.flow_model.specs.declared.SourceByte.{SourceByte}
use Rattle.flow_model.specs.declared.SinkPoint.{SinkPoint}
use Rattle.flow_model.specs.declared.SinkPoint.TheVariants.{Out, At}
use Rattle.flow_model.specs.declared.StepSeen.{StepSeen}
use Rattle.flow_model.specs.Orders.{point_cmp}
use Rattle.report_model.specs.Query.{Query, has_source, has_sink}
use Rattle.report_model.specs.Rows.{Sink, Row, sinks_of_step, point_sink, rows}
use Rattle.query_lang.specs.Single.{IsOnlySource, IsOnlySink}
use Rattle.path_find.specs.declared.Arrival.{Arrival}
use Rattle.path_find.specs.declared.Pair.{Pair}
use Rattle.path_find.specs.Paths.{path}

-- the output bytes of a trace, in the order of the run, where t steps are done before it
abbrev pub written_from : ℕ → List StepSeen → List Sink
written_from t [] = []
written_from t (s ∷ ss) = sinks_of_step t s.call ++ written_from (t + 1) ss

-- the output byte of this name, with its time and location; a point inside the run has its own
abbrev pub sink_of : List StepSeen → SinkPoint → Option Sink
sink_of trace (Out b) = find (λ x. is_eq (point_cmp (Out b) x.name)) (written_from 0 trace)
sink_of trace (At p) = if nat_le p.time (length trace) then Some (point_sink p) else None

-- a sink, and the path there, the latest arrival first
pub record PathTo : Type 0 where
  pub sink : Sink
  pub arrivals : List Arrival

abbrev pub ended_in : Sink → Option (List Arrival) → Option PathTo
ended_in x None = None
ended_in x (Some p) = Some (record { sink = x; arrivals = p })

abbrev pub path_to_sink : Rule → SourceByte → List StepSeen → Option Sink → Option PathTo
path_to_sink rule s trace None = None
path_to_sink rule s trace (Some x) = ended_in x (path rule s trace x.time x.loc)

-- the path of s to a sink, where the query chooses both and there is one
abbrev pub path_to : Query → List StepSeen → SinkPoint → SourceByte → Option PathTo
path_to q trace name s = if has_source q s && has_sink q name then path_to_sink q.rule s trace (sink_of trace name) else None

-- the sink with the first of its source bytes; where it has none, the other pair
abbrev pub pair_or : SinkPoint → List SourceByte → Option Pair → Option Pair
pair_or name [] other = other
pair_or name (s ∷ ss) other = Some (record { sink = name; source = s })

-- the first pair of rows: the first row that lists a source byte, and the first byte that it lists
abbrev pub first_pair : List Row → Option Pair
first_pair [] = None
first_pair (r ∷ rs) = pair_or r.sink r.sources (first_pair rs)

-- a query chooses the source byte and the sink of a pair, and no other
pub record Names (q : Query) (pair : Pair) : Type 0 where
  pub source : IsOnlySource q pair.source
  pub sink : IsOnlySink q pair.sink

-- ---- laws

-- no output byte stands twice, as in each run
abbrev pub IsWrittenOnce : List StepSeen → Type 0
IsWrittenOnce trace = (x y : Sink) → Contains (written_from 0 trace) x → Contains (written_from 0 trace) y → x.name ≡ y.name → x ≡ y

-- a path is told exactly where the sink has a row in the report that lists the source byte
abbrev pub PathsAreListed : Type 0
PathsAreListed = (q : Query) (trace : List StepSeen) (name : SinkPoint) (s : SourceByte) → IsWrittenOnce trace
    → ((p : PathTo) × (path_to q trace name s ≡ Some p)) ↔ ((r : Row) × Contains (rows q trace) r × (r.sink ≡ name) × Contains r.sources s)

-- rows have a first pair exactly where one of them lists a source byte
abbrev pub NoneIsListed : Type 0
NoneIsListed = (rs : List Row) → (first_pair rs ≡ None) ↔ All (λ r. r.sources ≡ []) rs

-- the first pair of a report has a path
abbrev pub FirstPairHasPath : Type 0
FirstPairHasPath = (q : Query) (trace : List StepSeen) (pair : Pair) → IsWrittenOnce trace → first_pair (rows q trace) ≡ Some pair
    → (p : PathTo) × (path_to q trace pair.sink pair.source ≡ Some p)
