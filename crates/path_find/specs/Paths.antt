-- How a source byte came to a location: the read that received it, and each step that carried it to another location. A path
-- is a list of arrivals, the latest first; the last of them is the read.
use Rattle.std.specs.Prelude.{◌≡◌, ℕ, zero, suc, ◌+◌, ◌<◌, ◌≤◌, Bool, true, false, ◌&&◌, ◌||◌, if◌then◌else◌, List, [], ◌∷◌, Option, Some, None, Contains}
use Rattle.std.specs.List.{list_any}
use Rattle.std.specs.Option.{option_or}
use Rattle.std.specs.Ordering.{eq_by_cmp}
use Rattle.flow_model.specs.declared.Loc.{Loc}
use Rattle.flow_model.specs.declared.Rule.{Rule}
use Rattle.flow_model.specs.declared.SourceByte.{SourceByte}
use Rattle.flow_model.specs.declared.StepSeen.{StepSeen}
use Rattle.flow_model.specs.declared.CallSeen.{CallSeen}
use Rattle.flow_model.specs.Orders.{source_cmp}
use Rattle.flow_model.specs.Flow.{Target, flow, cleared, loc_eq, is_received, from}
use Rattle.flow_model.specs.Origins.{byte_at, step_at}
use Rattle.path_find.specs.declared.Arrival.{Arrival}

-- ---- what one step does

abbrev pub is_target : List Target → Loc → Bool
is_target ts l = list_any (λ t. loc_eq t.loc l) ts

abbrev pub puts_by : Rule → StepSeen → Option CallSeen → Loc → Bool
puts_by rule step None l = is_target (flow rule step.instr step.place) l
puts_by rule step (Some call) l = is_received call l || is_target (cleared call.kind) l

-- the step puts new content at l: l is one of its targets, or a read received a byte there
abbrev pub puts : Rule → StepSeen → Loc → Bool
puts rule step l = puts_by rule step step.call l

-- the step is a read that puts the source byte s at l
abbrev pub brings : SourceByte → Option CallSeen → Loc → Bool
brings s None l = false
brings s (Some call) l = is_received call l && eq_by_cmp source_cmp s (byte_at call l)

-- ---- paths

abbrev pub IsLeft : Rule → Loc → Option StepSeen → Type 0
IsLeft rule l None = Unit {0}
IsLeft rule l (Some step) = puts rule step l ≡ false

-- no step from a up to t puts anything at l: what stands there is what stood there
abbrev pub StandsStill : Rule → List StepSeen → Loc → ℕ → ℕ → Type 0
StandsStill rule trace l a t = (u : ℕ) → a ≤ u → u < t → IsLeft rule l (step_at trace u)

-- the content of l after t steps came there in this arrival, and stood there since
pub record IsLatest (rule : Rule) (trace : List StepSeen) (t : ℕ) (l : Loc) (a : Arrival) : Type 0 where
  pub there : a.loc ≡ l
  pub before : a.number < t
  pub still : StandsStill rule trace l (a.number + 1) t

-- the arrival is a read that received the source byte
pub record IsRead (s : SourceByte) (trace : List StepSeen) (a : Arrival) : Type 0 where
  pub step : StepSeen
  pub is_step : step_at trace a.number ≡ Some step
  pub call : CallSeen
  pub is_call : step.call ≡ Some call
  pub is_there : is_received call a.loc ≡ true
  pub is_byte : byte_at call a.loc ≡ s

-- a hop: the step of arrival a puts content at its location, and by the flow table the content of b's location flows there
pub record IsHop (rule : Rule) (trace : List StepSeen) (a b : Arrival) : Type 0 where
  pub step : StepSeen
  pub is_step : step_at trace a.number ≡ Some step
  pub is_put : puts rule step a.loc ≡ true
  pub flows : Contains (from rule step a.loc) b.loc

-- a path of the source byte s to location l at time t: it ends in the latest arrival there; each arrival but the last is a
-- hop from the location of the previous one, which is the latest there at that time; and the last is a read of s
abbrev pub IsPath : Rule → SourceByte → List StepSeen → ℕ → Loc → List Arrival → Type 0
IsPath rule s trace t l [] = ⊥
IsPath rule s trace t l (a ∷ []) = IsLatest rule trace t l a × IsRead s trace a
IsPath rule s trace t l (a ∷ b ∷ bs) = IsLatest rule trace t l a × IsHop rule trace a b × IsPath rule s trace a.number b.loc (b ∷ bs)

-- ---- one path

-- the first of these that there is
abbrev pub first_of : (Loc → Option (List Arrival)) → List Loc → Option (List Arrival)
first_of f [] = None
first_of f (l ∷ ls) = option_or (f l) (first_of f ls)

-- the path before the arrival at l in a step: nothing where the step reads s there; else the path to the first location of
-- `from`, in the order of the flow table, to which there is one
abbrev pub earlier_path : Rule → SourceByte → StepSeen → (Loc → Option (List Arrival)) → Loc → Option (List Arrival)
earlier_path rule s step before l = option_or (if brings s step.call l then Some [] else None) (first_of before (from rule step l))

abbrev pub arrived : ℕ → Loc → Option (List Arrival) → Option (List Arrival)
arrived t l None = None
arrived t l (Some rest) = Some (record { number = t; loc = l } ∷ rest)

abbrev pub path_if_put : Bool → Rule → SourceByte → ℕ → StepSeen → (Loc → Option (List Arrival)) → Loc → Option (List Arrival)
path_if_put true rule s t step before l = arrived t l (earlier_path rule s step before l)
path_if_put false rule s t step before l = before l

-- the paths after step t, from those before it
abbrev pub path_after : Rule → SourceByte → ℕ → Option StepSeen → (Loc → Option (List Arrival)) → Loc → Option (List Arrival)
path_after rule s t None before l = before l
path_after rule s t (Some step) before l = path_if_put (puts rule step l) rule s t step before l

-- the one path of s to l at time t that an answer tells, if there is any
abbrev pub path : Rule → SourceByte → List StepSeen → ℕ → Loc → Option (List Arrival)
path rule s trace zero l = None
path rule s trace (suc t) l = path_after rule s t (step_at trace t) (path rule s trace t) l
