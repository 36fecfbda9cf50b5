-- The origins of each location at each time: the source bytes that its content came from.
use Rattle.std.specs.Prelude.{ℕ, zero, suc, ◌+◌, Bool, if◌then◌else◌, List, [], ◌∷◌, Option, Some, None}
use Rattle.flow_model.specs.declared.Loc.{Loc}
use Rattle.flow_model.specs.declared.Loc.TheVariants.{Reg, Mem}
use Rattle.flow_model.specs.declared.Rule.{Rule}
use Rattle.flow_model.specs.declared.SourceByte.{SourceByte}
use Rattle.flow_model.specs.declared.StepSeen.{StepSeen}
use Rattle.flow_model.specs.declared.CallSeen.{CallSeen}
use Rattle.lists.specs.Sets.{union}
use Rattle.flow_model.specs.Orders.{source_cmp}
use Rattle.flow_model.specs.Flow.{from, is_received, distance}

-- a taint policy: how taint propagates, and which bytes that a run reads introduce it
pub record Policy : Type 0 where
  pub rule : Rule
  pub introduces : SourceByte → Bool

abbrev pub introduced : Policy → SourceByte → List SourceByte
introduced policy b = if policy.introduces b then b ∷ [] else []

-- the source byte that a read puts at a location
abbrev pub byte_at : CallSeen → Loc → SourceByte
byte_at call (Reg r i) = record { channel = call.channel; offset = call.offset }
byte_at call (Mem p) = record { channel = call.channel; offset = call.offset + distance call.place p }

abbrev pub fresh_by : Policy → Option CallSeen → Loc → List SourceByte
fresh_by policy None l = []
fresh_by policy (Some call) l = if is_received call l then introduced policy (byte_at call l) else []

-- the one source byte that the step puts at l, where it is a read and the policy introduces the byte; else nothing
abbrev pub fresh : Policy → StepSeen → Loc → List SourceByte
fresh policy step l = fresh_by policy step.call l

-- the union of what each of the locations has
abbrev pub union_over : (Loc → List SourceByte) → List Loc → List SourceByte
union_over before [] = []
union_over before (l ∷ []) = before l
union_over before (l ∷ m ∷ ls) = union source_cmp (before l) (union_over before (m ∷ ls))

-- the origins after a step, from those before it
abbrev pub after_step : Policy → Option StepSeen → (Loc → List SourceByte) → Loc → List SourceByte
after_step policy None before l = before l
after_step policy (Some step) before l = union source_cmp (fresh policy step l) (union_over before (from policy.rule step l))

abbrev pub step_at : List StepSeen → ℕ → Option StepSeen
step_at [] t = None
step_at (s ∷ ss) zero = Some s
step_at (s ∷ ss) (suc t) = step_at ss t

-- the source bytes that the content of l came from, after t steps of the trace
abbrev pub origins : Policy → List StepSeen → ℕ → Loc → List SourceByte
origins policy trace zero l = []
origins policy trace (suc t) l = after_step policy (step_at trace t) (origins policy trace t) l
