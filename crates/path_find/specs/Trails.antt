-- The trail of a source byte, and how a step moves it on.
use Rattle.std.specs.Prelude.{◌≡◌, ℕ, if◌then◌else◌, List, [], ◌∷◌, map, Option, Some, None, slice_get, slice_index_or}
use Rattle.std.specs.List.{AllByRecursion}
use Rattle.std.specs.Ordering.{eq_by_cmp}
use Rattle.flow_model.specs.declared.Loc.{Loc}
use Rattle.flow_model.specs.declared.Rule.{Rule}
use Rattle.flow_model.specs.declared.SourceByte.{SourceByte}
use Rattle.flow_model.specs.declared.StepSeen.{StepSeen}
use Rattle.flow_model.specs.declared.CallSeen.{CallSeen}
use Rattle.flow_model.specs.Orders.{source_cmp}
use Rattle.flow_model.specs.Flow.{Target, cleared, loc_eq, is_received}
use Rattle.flow_model.specs.Origins.{byte_at}
use Rattle.flow_model.specs.Ranges.{IsLocation}
use Rattle.path_find.specs.declared.Arrival.{Arrival}
use Rattle.path_find.specs.Paths.{arrived, first_of, path}
use Rattle.path_find.specs.declared.nodes.Node.{Node}
use Rattle.path_find.specs.declared.nodes.Label.{Label}
use Rattle.path_find.specs.declared.nodes.Label.TheVariants.{Nothing}
use Rattle.path_find.specs.declared.carriers.Carriers.{Carriers}
use Rattle.path_find.specs.declared.trail.Trail.{Trail}
use Rattle.path_find.specs.Labels.{StandsIn, path_at, KeepsLabels}
use Rattle.path_find.specs.Carriers.{kept, first_label}

-- the path to a location, by its label
abbrev pub told : List Node → Carriers → Loc → Option (List Arrival)
told nodes c l = path_at nodes (kept c l)

-- the label of each location stands
pub record AreStanding (nodes : List Node) (c : Carriers) : Type 0 where
  pub at : (l : Loc) → IsLocation l → StandsIn nodes (kept c l)

-- the path to each location is what g gives now; the labels stand, and what stood is kept
pub record Becomes (old new : List Node) (now : Carriers) (g : Loc → Option (List Arrival)) : Type 0 where
  pub paths : (l : Loc) → IsLocation l → told new now l ≡ g l
  pub standing : AreStanding new now
  pub keeps : KeepsLabels old new

-- ---- an instruction

-- the paths after content moved by a table of targets, in step t
abbrev pub carried : ℕ → (Loc → Option (List Arrival)) → List Target → Loc → Option (List Arrival)
carried t f [] l = f l
carried t f (x ∷ xs) l = if loc_eq x.loc l then arrived t l (first_of f x.origins) else carried t f xs l

abbrev pub Carries : List Node → Carriers → ℕ → List Target → List Node → Carriers → Type 0
Carries old before t ts new now = Becomes old new now (carried t (told old before) ts)

-- for each target the first label of its origins
abbrev pub AreFirst : Carriers → List Target → List Label → Type 0
AreFirst c ts labels = (i : ℕ) (ls : List Loc) → slice_get (map (λ t. t.origins) ts) i ≡ Some ls → slice_index_or labels i Nothing ≡ first_label (kept c) ls

-- each target and each origin of a table is such
abbrev pub IsApart : (Loc → Type 0) → List Target → Type 0
IsApart P [] = Unit {0}
IsApart P (t ∷ ts) = P t.loc × AllByRecursion P t.origins × IsApart P ts

-- ---- a call

-- the paths after a read received bytes, in step t
abbrev pub received : SourceByte → ℕ → CallSeen → (Loc → Option (List Arrival)) → Loc → Option (List Arrival)
received s t call f l =
    if is_received call l then arrived t l (if eq_by_cmp source_cmp s (byte_at call l) then Some [] else None) else f l

-- the call with no more than its first n bytes
abbrev pub first_bytes : CallSeen → ℕ → CallSeen
first_bytes call n = record call { length = n }

abbrev pub Receives : List Node → Carriers → SourceByte → ℕ → CallSeen → List Node → Carriers → Type 0
Receives old before s t call new now = Becomes old new now (received s t call (told old before))

-- a call empties the registers of its result, and a read receives bytes
abbrev pub Calls : List Node → Carriers → SourceByte → ℕ → CallSeen → List Node → Carriers → Type 0
Calls old before s t call new now = Becomes old new now (received s t call (carried t (told old before) (cleared call.kind)))

-- ---- a trail

-- what is kept of each location can be told
abbrev pub IsTrail : Trail → Type 0
IsTrail trail = AreStanding trail.nodes trail.carriers

-- the trail of s, by a rule, has for each location the path that it has after t steps of the trace
pub record IsAfter (rule : Rule) (s : SourceByte) (trace : List StepSeen) (t : ℕ) (trail : Trail) : Type 0 where
  pub rule_is : trail.rule ≡ rule
  pub source_is : trail.source ≡ s
  pub paths : (l : Loc) → IsLocation l → told trail.nodes trail.carriers l ≡ path rule s trace t l
  pub is_trail : IsTrail trail
