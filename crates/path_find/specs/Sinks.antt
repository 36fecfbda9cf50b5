-- Where a sink is met in a run.
use Rattle.std.specs.Prelude.{◌≡◌, ℕ, ◌≤◌, ◌==◌, Bool, if◌then◌else◌, List, drop, Option, Some, None}
use Rattle.std.specs.List.{find}
use Rattle.std.specs.Option.{option_map}
use Rattle.std.specs.Ordering.{is_eq}
use Rattle.flow_model.specs.declared.Loc.{Loc}
use Rattle.flow_model.specs.declared.SinkPoint.{SinkPoint}
use Rattle.flow_model.specs.declared.SinkPoint.TheVariants.{Out, At}
use Rattle.flow_model.specs.declared.StepSeen.{StepSeen}
use Rattle.flow_model.specs.Orders.{point_cmp}
use Rattle.flow_model.specs.Ranges.{IsLocation}
use Rattle.report_model.specs.Rows.{Sink, sinks_of_step, point_sink}
use Rattle.path_find.specs.declared.Pair.{Pair}
use Rattle.path_find.specs.FirstPair.{PathTo, written_from}
use Rattle.path_find.specs.declared.finding.SinkPath.{SinkPath}

abbrev pub is_named : SinkPoint → Sink → Bool
is_named name x = is_eq (point_cmp name x.name)

-- the sink of this name, after so many steps, by its location
abbrev pub sink_by : SinkPoint → ℕ → Option Loc → Option Sink
sink_by name t o = option_map (λ l. record { name = name; time = t; loc = l }) o

-- where it is met before a step: an output byte that the step writes, or a point at its time
abbrev pub sink_here : SinkPoint → StepSeen → Option Sink
sink_here (Out b) s = find (is_named (Out b)) (sinks_of_step s.number s.call)
sink_here (At p) s = if p.time == s.number then Some (point_sink p) else None

-- where it is met after all of so many steps: a point at that time
abbrev pub sink_after : SinkPoint → ℕ → Option Sink
sink_after (Out b) t = None
sink_after (At p) t = if p.time == t then Some (point_sink p) else None

-- no step of a trace before t met it
abbrev pub IsNotMet : SinkPoint → ℕ → List StepSeen → Type 0
IsNotMet (Out b) t trace = find (is_named (Out b)) (written_from 0 trace) ≡ find (is_named (Out b)) (written_from t (drop t trace))
IsNotMet (At p) t trace = t ≤ p.time

-- a point is at a location
abbrev pub HasLocation : SinkPoint → Type 0
HasLocation (Out b) = Unit {0}
HasLocation (At p) = IsLocation p.loc

-- so is the point of a pair
abbrev pub IsLocated : Pair → Type 0
IsLocated pair = HasLocation pair.sink

-- a path that was found
abbrev pub path_of : SinkPath → PathTo
path_of f = record { sink = record { name = f.name; time = f.time; loc = f.loc }; arrivals = f.arrivals.items }

abbrev pub shown_path : Option SinkPath → Option PathTo
shown_path o = option_map path_of o
