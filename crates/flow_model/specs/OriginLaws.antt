-- What the definitions of the flow table and of origins come to.
use Rattle.std.specs.Prelude.{◌≡◌, ℕ, ◌+◌, ◌<◌, ◌≤◌, ◌⊎◌, ◌↔◌, true, List, [], ◌∷◌, Option, Some, None, All, Any, Contains}
use Rattle.isa.specs.declared.Instr.{Instr}
use Rattle.isa.specs.declared.CallKind.{CallKind}
use Rattle.flow_model.specs.declared.Loc.{Loc}
use Rattle.flow_model.specs.declared.Rule.{Rule}
use Rattle.flow_model.specs.declared.SourceByte.{SourceByte}
use Rattle.flow_model.specs.declared.StepSeen.{StepSeen}
use Rattle.flow_model.specs.declared.CallSeen.{CallSeen}
use Rattle.lists.specs.Sets.{Ascends}
use Rattle.flow_model.specs.Orders.{loc_cmp, source_cmp}
use Rattle.flow_model.specs.Flow.{flow, cleared, from, is_received}
use Rattle.flow_model.specs.Origins.{Policy, introduced, byte_at, fresh, step_at, origins}

-- the origins of each target of an instruction or a call ascend without repeats
abbrev pub FlowAscends : Type 0
FlowAscends = (rule : Rule) (instr : Instr) (place : ℕ) → All (λ t. Ascends loc_cmp t.origins) (flow rule instr place)

abbrev pub ClearedAscends : Type 0
ClearedAscends = (kind : CallKind) → All (λ t. Ascends loc_cmp t.origins) (cleared kind)

-- the origins of each location at each time ascend without repeats
abbrev pub OriginsAscend : Type 0
OriginsAscend = (policy : Policy) (trace : List StepSeen) (t : ℕ) (l : Loc) → Ascends source_cmp (origins policy trace t l)

-- no location has origins before the first step
abbrev pub NoneAtStart : Type 0
NoneAtStart = (policy : Policy) (trace : List StepSeen) (l : Loc) → origins policy trace 0 l ≡ []

-- after a step a source byte is among the origins of l exactly where it is fresh there, or was among the origins of a
-- location whose content flows into l
abbrev pub OriginsFlowIn : Type 0
OriginsFlowIn = (policy : Policy) (trace : List StepSeen) (t : ℕ) (l : Loc) (b : SourceByte) (step : StepSeen) → step_at trace t ≡ Some step
    → Contains (origins policy trace (t + 1) l) b ↔ (Contains (fresh policy step l) b ⊎ Any (λ m. Contains (origins policy trace t m) b) (from policy.rule step l))

-- l is no target of the step, if there is one, and gets no source byte
abbrev pub LeavesAlone : Policy → Loc → Option StepSeen → Type 0
LeavesAlone policy l None = Unit {0}
LeavesAlone policy l (Some step) = (from policy.rule step l ≡ l ∷ []) × (fresh policy step l ≡ [])

-- a location that one step leaves alone, or all steps from s up to t, keeps its origins
abbrev pub StepKeepsOrigins : Type 0
StepKeepsOrigins = (policy : Policy) (trace : List StepSeen) (t : ℕ) (l : Loc)
    → LeavesAlone policy l (step_at trace t) → origins policy trace (t + 1) l ≡ origins policy trace t l

abbrev pub StepsKeepOrigins : Type 0
StepsKeepOrigins = (policy : Policy) (trace : List StepSeen) (s t : ℕ) (l : Loc)
    → s ≤ t → ((u : ℕ) → s ≤ u → u < t → LeavesAlone policy l (step_at trace u)) → origins policy trace t l ≡ origins policy trace s l

-- a byte that a read received has its own source byte as its one origin where the policy introduces that, and none
-- otherwise
abbrev pub ReceivedHasItsSource : Type 0
ReceivedHasItsSource = (policy : Policy) (trace : List StepSeen) (t : ℕ) (l : Loc) (step : StepSeen) (call : CallSeen)
    → step_at trace t ≡ Some step → step.call ≡ Some call → is_received call l ≡ true
    → origins policy trace (t + 1) l ≡ introduced policy (byte_at call l)

-- the policy introduces b, and a step before the time t, a read, put it somewhere
pub record WasRead (policy : Policy) (trace : List StepSeen) (t : ℕ) (b : SourceByte) : Type 0 where
  pub is_introduced : policy.introduces b ≡ true
  pub number : ℕ
  pub is_before : number < t
  pub step : StepSeen
  pub is_step : step_at trace number ≡ Some step
  pub call : CallSeen
  pub is_call : step.call ≡ Some call
  pub loc : Loc
  pub is_there : is_received call loc ≡ true
  pub is_byte : byte_at call loc ≡ b

abbrev pub OriginsWereRead : Type 0
OriginsWereRead = (policy : Policy) (trace : List StepSeen) (t : ℕ) (l : Loc) → All (WasRead policy trace t) (origins policy trace t l)
