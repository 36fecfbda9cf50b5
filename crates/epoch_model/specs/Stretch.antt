-- What flows over a stretch of a trace, the n steps from time s on, and which sinks it has.
use Rattle.std.specs.Prelude.{ℕ, zero, suc, ◌+◌, List, [], ◌∷◌, ◌++◌, Option, Some, None}
use Rattle.std.specs.List.{filter}
use Rattle.flow_model.specs.declared.Loc.{Loc}
use Rattle.flow_model.specs.declared.Rule.{Rule}
use Rattle.flow_model.specs.declared.SourceByte.{SourceByte}
use Rattle.flow_model.specs.declared.StepSeen.{StepSeen}
use Rattle.lists.specs.Sets.{union}
use Rattle.flow_model.specs.Orders.{loc_cmp, source_cmp}
use Rattle.flow_model.specs.Flow.{from}
use Rattle.flow_model.specs.Origins.{Policy, fresh, union_over, step_at}
use Rattle.report_model.specs.Query.{Query, has_sink}
use Rattle.report_model.specs.Rows.{Sink, sinks_of_step, points_at}

-- the union of the locations that each of the locations has
abbrev pub locations_over : (Loc → List Loc) → List Loc → List Loc
locations_over before [] = []
locations_over before (l ∷ []) = before l
locations_over before (l ∷ m ∷ ls) = union loc_cmp (before l) (locations_over before (m ∷ ls))

-- the locations that flow into l in a step: l itself where there is no step
abbrev pub from_step : Rule → Option StepSeen → Loc → List Loc
from_step rule None l = l ∷ []
from_step rule (Some step) l = from rule step l

-- the source byte that a step puts at l: none where there is no step
abbrev pub fresh_step : Policy → Option StepSeen → Loc → List SourceByte
fresh_step policy None l = []
fresh_step policy (Some step) l = fresh policy step l

-- the locations whose content at time s flows into l over the next n steps
abbrev pub past : Rule → List StepSeen → ℕ → ℕ → Loc → List Loc
past rule trace s zero l = l ∷ []
past rule trace s (suc n) l = locations_over (past rule trace s n) (from_step rule (step_at trace (s + n)) l)

-- the source bytes that the n steps from time s on read and that flow into l
abbrev pub born : Policy → List StepSeen → ℕ → ℕ → Loc → List SourceByte
born policy trace s zero l = []
born policy trace s (suc n) l =
    union source_cmp (fresh_step policy (step_at trace (s + n)) l)
    (union_over (born policy trace s n) (from_step policy.rule (step_at trace (s + n)) l))

-- ---- the sinks of a stretch

-- the chosen output bytes of a step that follows t steps, and then the query's points right after it
abbrev pub sinks_at_step : Query → ℕ → Option StepSeen → List Sink
sinks_at_step q t None = []
sinks_at_step q t (Some step) = filter (λ k. has_sink q k.name) (sinks_of_step t step.call) ++ points_at q (t + 1)

-- the chosen output bytes of the n steps from time s on, and the points above s up to their end, in the run's order
abbrev pub sinks_between : Query → List StepSeen → ℕ → ℕ → List Sink
sinks_between q trace s zero = []
sinks_between q trace s (suc n) = sinks_between q trace s n ++ sinks_at_step q (s + n) (step_at trace (s + n))

-- the points at time 0 belong to the epoch that begins there
abbrev pub points_at_start : Query → ℕ → List Sink
points_at_start q zero = points_at q 0
points_at_start q (suc s) = []

-- the sinks of the epoch of the n steps from time s on: a point at a cut belongs to the epoch that ends there
abbrev pub sinks_of_epoch : Query → List StepSeen → ℕ → ℕ → List Sink
sinks_of_epoch q trace s n = points_at_start q s ++ sinks_between q trace s n
