-- The rows of a query over a trace: each chosen output byte of a trace and each chosen point inside it, with the source
-- bytes that it came from.
use Rattle.std.specs.Prelude.{ℕ, ◌+◌, ◌==◌, nat_le, List, [], ◌∷◌, ◌++◌, map, Option, Some, None}
use Rattle.std.specs.List.{filter, range_with_len}
use Rattle.std.specs.declared.cmp.Ordering.{Ordering}
use Rattle.isa.specs.declared.CallKind.{CallKind}
use Rattle.isa.specs.declared.CallKind.TheVariants as kind
use Rattle.flow_model.specs.declared.Loc.{Loc}
use Rattle.flow_model.specs.declared.Loc.TheVariants.{Mem}
use Rattle.flow_model.specs.declared.SourceByte.{SourceByte}
use Rattle.flow_model.specs.declared.InnerSink.{InnerSink}
use Rattle.flow_model.specs.declared.SinkPoint.{SinkPoint}
use Rattle.flow_model.specs.declared.SinkPoint.TheVariants.{Out, At}
use Rattle.flow_model.specs.declared.StepSeen.{StepSeen}
use Rattle.flow_model.specs.declared.CallSeen.{CallSeen}
use Rattle.lists.specs.Sets.{set_of}
use Rattle.flow_model.specs.Orders.{point_cmp}
use Rattle.isa.specs.Machine.{wrap}
use Rattle.flow_model.specs.Origins.{origins}
use Rattle.report_model.specs.Query.{Query, has_sink, policy_of}

-- an output byte, the number of steps done before it was written, and the location that it was written from; or a point
-- with its own time and location
pub record Sink : Type 0 where
  pub name : SinkPoint
  pub time : ℕ
  pub loc : Loc

-- the i-th byte of a write that follows t steps
abbrev pub sink_at : ℕ → CallSeen → ℕ → Sink
sink_at t call i = record {
  name = Out (record { channel = call.channel; offset = call.offset + i });
  time = t;
  loc = Mem (wrap (call.place + i));
}

-- the output bytes of a call of this kind
abbrev pub sinks_of_call : ℕ → CallSeen → CallKind → List Sink
sinks_of_call t call kind.Write = map (sink_at t call) (range_with_len 0 call.length)
sinks_of_call t call kind.Read = []
sinks_of_call t call kind.Clock = []
sinks_of_call t call kind.Other = []
sinks_of_call t call kind.Exit = []

-- the output bytes of a step that follows t steps, by the call that it is, if it is one
abbrev pub sinks_of_step : ℕ → Option CallSeen → List Sink
sinks_of_step t None = []
sinks_of_step t (Some call) = sinks_of_call t call call.kind

abbrev pub point_sink : InnerSink → Sink
point_sink p = record { name = At p; time = p.time; loc = p.loc }

-- the points at a time
abbrev pub at_time : ℕ → List InnerSink → List InnerSink
at_time t points = filter (λ p. p.time == t) points

-- the points at a time or later
abbrev pub from_time : ℕ → List InnerSink → List InnerSink
from_time t points = filter (λ p. nat_le t p.time) points

-- the query's points at time t
abbrev pub points_at : Query → ℕ → List Sink
points_at q t = map point_sink (at_time t q.points)

-- the chosen sinks from time t on: at each time the points, and then the chosen output bytes of the step that follows
abbrev pub sinks_from : Query → ℕ → List StepSeen → List Sink
sinks_from q t [] = points_at q t
sinks_from q t (s ∷ ss) = points_at q t ++ filter (λ x. has_sink q x.name) (sinks_of_step t s.call) ++ sinks_from q (t + 1) ss

-- the chosen sinks of a trace, in the order of the run
abbrev pub chosen_sinks : Query → List StepSeen → List Sink
chosen_sinks q trace = sinks_from q 0 trace

-- a row of a report: an output byte or a point, and its source bytes, ascending
pub record Row : Type 0 where
  pub sink : SinkPoint
  pub sources : List SourceByte

abbrev pub row : Query → List StepSeen → Sink → Row
row q trace s = record { sink = s.name; sources = origins (policy_of q) trace s.time s.loc }

-- the rows in the order of the run
abbrev pub rows_as_written : Query → List StepSeen → List Row
rows_as_written q trace = map (row q trace) (chosen_sinks q trace)

-- rows compare as what they are of
abbrev pub row_cmp : Row → Row → Ordering
row_cmp a b = point_cmp a.sink b.sink

-- the rows of a query over a trace: those of output bytes, by channel and then offset, and then those of points, by time
-- and then location
abbrev pub rows : Query → List StepSeen → List Row
rows q trace = set_of row_cmp (rows_as_written q trace)
