-- The nodes of a run never stand still together, and whatever the schedule they end with the rows of the whole trace.
use Rattle.std.specs.Prelude.{◌≡◌, ◌⊎◌, ℕ, ◌+◌, ◌<◌, ◌≤◌, Bool, true, false, List, [], ◌∷◌, map, length, None, All}
use Rattle.std.specs.List.{AllByRecursion}
use Rattle.flow_model.specs.declared.Loc.{Loc}
use Rattle.flow_model.specs.declared.StepSeen.{StepSeen}
use Rattle.flow_model.specs.Ranges.{IsInRange}
use Rattle.flow_model.specs.declared.Message.{Message}
use Rattle.report_model.specs.Query.{Query, AreLocated}
use Rattle.epoch_model.specs.Cutting.{IsCutting}
use Rattle.epoch_model.specs.Summary.{Summary, AreSummaries}
use Rattle.stream_model.specs.StreamLaws.{IsPrefix, Meets}
use Rattle.stream_model.specs.Passes.{Links, Asking, asking_event, Answering, answering_event}
use Rattle.stream_model.specs.Work.{run_work}
use Rattle.stream_model.specs.Schedules.{NodeState, Event, asks_sent_in, asks_got_in, answers_sent_in, answers_got_in, nodes_start, nodes_after, event_at, is_met, asking_need, answering_need, moves_at, is_done, is_whole_in, node_in}

-- an event that does not move changes nothing
abbrev pub StillAsking : Type 0
StillAsking = (first : Bool) (e : Summary) (links : Links) (a : Asking) → is_met (asking_need a) links ≡ false → asking_event first e links a ≡ a

abbrev pub StillAnswering : Type 0
StillAnswering = (e : Summary) (asked : List Loc) (links : Links) (f : Answering) → is_met (answering_need e asked f) links ≡ false → answering_event e asked links f ≡ f

-- in every state that a schedule reaches, all nodes are done or some node's event moves, whatever is refused
abbrev pub NeverStill : Type 0
NeverStill = (capacity : ℕ) (es : List Summary) (schedule : List Event) → 0 < capacity
    → let ns = nodes_after capacity schedule (nodes_start es) in
    AllByRecursion (λ n. is_done n.phase ≡ true) ns ⊎ ((k : ℕ) × (moves_at capacity k None ns ≡ true))

-- what was got is the beginning of what was sent, and the link holds the rest: at most as many messages as its capacity
pub record IsDelivered (capacity : ℕ) (sent got : List Message) : Type 0 where
  pub in_order : IsPrefix got sent
  pub few : length sent ≤ length got + capacity

-- so it is on both links between each two neighbours
abbrev pub AreDelivered : ℕ → List NodeState → Type 0
AreDelivered capacity [] = Unit {0}
AreDelivered capacity (n ∷ []) = Unit {0}
AreDelivered capacity (n ∷ m ∷ ns) =
    IsDelivered capacity (asks_sent_in m.phase) (asks_got_in n.phase)
    × IsDelivered capacity (answers_sent_in n.phase) (answers_got_in m.phase)
    × AreDelivered capacity (m ∷ ns)

-- in every state that a schedule reaches, whatever is refused, no link holds more than its capacity
abbrev pub NeverOverfull : Type 0
NeverOverfull = (capacity : ℕ) (es : List Summary) (schedule : List Event)
    → AreDelivered capacity (nodes_after capacity schedule (nodes_start es))

-- whatever the cutting, the capacity and the schedule: once all nodes are done, and none is broken, the links have carried
-- what is needed and its origins, and the nodes have the rows of the whole trace
abbrev pub EveryScheduleMeets : Type 0
EveryScheduleMeets = (q : Query) (trace : List StepSeen) (cuts : List ℕ) (capacity : ℕ) (es : List Summary) (schedule : List Event)
    → All IsInRange trace → AreLocated q.points
    → IsCutting (length trace) cuts → AreSummaries q trace 0 cuts es
    → let ns = nodes_after capacity schedule (nodes_start es) in
    AllByRecursion (λ n. is_done n.phase ≡ true) ns → AllByRecursion (λ n. is_whole_in n.phase ≡ true) ns
    → Meets q trace cuts (map node_in ns)

-- ---- how many events move

abbrev pub one_if : Bool → ℕ
one_if true = 1
one_if false = 0

abbrev pub moves_in : ℕ → List Event → List NodeState → ℕ
moves_in capacity [] ns = 0
moves_in capacity (v ∷ vs) ns =
    one_if (moves_at capacity v.node None ns)
    + moves_in capacity vs (event_at capacity v.is_refused v.node None ns)

-- every schedule that ends with all nodes done, and none broken, has the same number of events that move
abbrev pub SameWork : Type 0
SameWork = (q : Query) (trace : List StepSeen) (cuts : List ℕ) (capacity : ℕ) (es : List Summary) (schedule : List Event)
    → All IsInRange trace → AreLocated q.points
    → IsCutting (length trace) cuts → AreSummaries q trace 0 cuts es
    → let ns = nodes_after capacity schedule (nodes_start es) in
    AllByRecursion (λ n. is_done n.phase ≡ true) ns → AllByRecursion (λ n. is_whole_in n.phase ≡ true) ns
    → moves_in capacity schedule (nodes_start es) ≡ run_work q trace cuts
