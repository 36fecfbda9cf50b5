-- Breakpoints and watchpoints, and at which steps of a run they have it stop.
use Rattle.std.specs.Prelude.{ℕ, ◌+◌, ◌==◌, nat_lt, nat_le, Bool, true, false, not, ◌&&◌, ◌||◌, if◌then◌else◌, List, [], ◌∷◌, ◌++◌, filter, Option, Some, None}
use Rattle.std.specs.List.{find, list_any}
use Rattle.std.specs.Option.{is_some}
use denote.Enum.Bare.{sameb}
use Rattle.flow_model.specs.declared.StepSeen.{StepSeen}
use Rattle.flow_model.specs.Origins.{step_at}
use Rattle.replayer.specs.Jobs.{Job, trace_of}
use Rattle.replayer.specs.Positions.{state_at}
use Rattle.run_travel.specs.contracts.kind.WatchKind.{the_type}
use Rattle.run_travel.specs.declared.access.Span.{Span}
use Rattle.run_travel.specs.declared.aim.Aim.{Aim}
use Rattle.run_travel.specs.declared.aim.Aim.TheVariants.{Step, Points, Leave}
use Rattle.run_travel.specs.declared.watch.Watch.{Watch}
use Rattle.run_travel.specs.declared.kind.WatchKind.{WatchKind}
use Rattle.run_travel.specs.declared.kind.WatchKind.TheVariants.{Writes, Reads, Both}
use Rattle.run_travel.specs.Accesses.{places, read_by, written_by}

-- ---- points

-- breakpoints, by their addresses, and watchpoints, in the order in which they were set
pub record PointsAt : Type 0 where
  pub breaks : List ℕ
  pub watches : List Watch

-- `==` on kinds
abbrev pub same_kind : WatchKind → WatchKind → Bool
same_kind = sameb the_type

-- of the same kind, and of the same bytes
abbrev pub same_watch : Watch → Watch → Bool
same_watch v w = same_kind v.kind w.kind && v.place == w.place && v.length == w.length

-- what is set comes last, unless it is set already. What is cleared is gone
abbrev pub with_break : PointsAt → ℕ → PointsAt
with_break points pc =
    if list_any (λ kept. kept == pc) points.breaks then points
    else record points { breaks = points.breaks ++ pc ∷ [] }

abbrev pub without_break : PointsAt → ℕ → PointsAt
without_break points pc = record points { breaks = filter (λ kept. not (kept == pc)) points.breaks }

abbrev pub with_watch : PointsAt → Watch → PointsAt
with_watch points w =
    if list_any (λ kept. same_watch kept w) points.watches then points
    else record points { watches = points.watches ++ w ∷ [] }

abbrev pub without_watch : PointsAt → Watch → PointsAt
without_watch points w = record points { watches = filter (λ kept. not (same_watch kept w)) points.watches }

-- ---- which steps meet a watchpoint

-- the byte at an address is one that is watched
abbrev pub is_watched : Watch → ℕ → Bool
is_watched w place = nat_le w.place place && nat_lt place (w.place + w.length)

-- one of these bytes is
abbrev pub looks_at : Watch → Span → Bool
looks_at w bytes = list_any (is_watched w) (places bytes)

-- a step does what a watchpoint of this kind looks for
abbrev pub is_looked_for : WatchKind → (writes reads : Bool) → Bool
is_looked_for Writes writes reads = writes
is_looked_for Reads writes reads = reads
is_looked_for Both writes reads = reads || writes

abbrev pub meets : StepSeen → Watch → Bool
meets step w = is_looked_for w.kind (looks_at w (written_by step step.call)) (looks_at w (read_by step step.call))

-- the watchpoint that a step meets: of several the one that was set first
abbrev pub met_by : PointsAt → Option StepSeen → Option Watch
met_by points None = None
met_by points (Some step) = find (meets step) points.watches

-- that which step t of a run meets: the step from time t to t + 1
abbrev pub met_at : Job → PointsAt → ℕ → Option Watch
met_at job points t = met_by points (step_at (trace_of job) t)

-- ---- where a run stops

-- the pc after t steps
abbrev pub pc_at : Job → ℕ → ℕ
pc_at job t = (state_at record { job = job; time = t }).pc

abbrev pub is_break : PointsAt → ℕ → Bool
is_break points pc = list_any (λ kept. kept == pc) points.breaks

-- a pc is a breakpoint, or the step between it and the pc where the run came from met a watchpoint
abbrev pub is_point : PointsAt → Option Watch → ℕ → Bool
is_point points met pc = is_some met || is_break points pc

-- a move forward with this aim stops at any pc, at none but points, or at one that isn't in a range
abbrev pub is_reached : Aim → ℕ → Bool
is_reached Step pc = true
is_reached Points pc = false
is_reached (Leave from past) pc = nat_lt pc from || nat_le past pc

-- a run that goes on stops after step t, at time t + 1
abbrev pub stops_after : Job → PointsAt → Aim → ℕ → Bool
stops_after job points aim t =
    is_point points (met_at job points t) (pc_at job (t + 1)) || is_reached aim (pc_at job (t + 1))

-- a run that goes back stops before step t, at time t
abbrev pub stops_before : Job → PointsAt → ℕ → Bool
stops_before job points t = is_point points (met_at job points t) (pc_at job t)
