-- How one step turns what locations are labelled with.
use Rattle.std.specs.Prelude.{◌≡◌, ℕ, ◌+◌, ◌-◌, nat_lt, Bool, false, if◌then◌else◌, List, [], ◌∷◌, Option, Some, None}
use Rattle.flow_model.specs.declared.Loc.{Loc}
use Rattle.flow_model.specs.declared.Loc.TheVariants.{Reg, Mem}
use Rattle.flow_model.specs.declared.SourceByte.{SourceByte}
use Rattle.flow_model.specs.declared.StepSeen.{StepSeen}
use Rattle.flow_model.specs.declared.CallSeen.{CallSeen}
use Rattle.flow_model.specs.Flow.{Target, flow, lanes, origins_by, is_received, from_call, distance}
use Rattle.flow_model.specs.Origins.{Policy, byte_at}
use Rattle.flow_model.specs.Ranges.{IsLocation}
use Rattle.flow_rule.specs.declared.shape.Shape.{Shape}
use Rattle.flow_rule.specs.Shapes.{targets_of}
use Rattle.taint_shadow.specs.declared.labels.Label.{Label}
use Rattle.taint_shadow.specs.declared.lanes.Lanes.{Lanes}
use Rattle.taint_shadow.specs.declared.places.Places.{Places}
use Rattle.taint_shadow.specs.Labels.{LabelWords, KeepsLabels, Makes}
use Rattle.taint_shadow.specs.Lanes.{lane_at, MakesLanes}
use Rattle.taint_shadow.specs.Places.{kept}

-- one of the n bytes from a place on, round the end of memory
abbrev pub is_among : ℕ → ℕ → Loc → Bool
is_among place n (Reg r i) = false
is_among place n (Mem p) = nat_lt (distance place p) n

module _ {A M : Type 0} (words : LabelWords A M) where
  -- the meaning of a location's label
  abbrev pub meaning_at : A → Places → Loc → M
  meaning_at labels p l = words.means labels (kept p l)

  -- the label of each location stands
  pub record AreStanding (labels : A) (p : Places) : Type 0 where
    pub at : (l : Loc) → IsLocation l → words.stands labels (kept p l)

  -- each location means what f gives for it
  pub record Holds (labels : A) (p : Places) (f : Loc → M) : Type 0 where
    pub at : (l : Loc) → IsLocation l → meaning_at labels p l ≡ f l

  -- whatever the locations meant, they mean what t makes of it now; their labels stand, and what stood is kept
  pub record Becomes (old : A) (before : Places) (new : A) (now : Places) (t : (Loc → M) → Loc → M) : Type 0 where
    pub holds : (f : Loc → M) → Holds old before f → Holds new now (t f)
    pub standing : AreStanding new now
    pub keeps : KeepsLabels words old new

  -- what some locations have together
  abbrev pub united_over : (Loc → M) → List Loc → M
  united_over f [] = words.nothing
  united_over f (l ∷ []) = f l
  united_over f (l ∷ m ∷ ls) = words.united (f l) (united_over f (m ∷ ls))

  -- what each location has after some targets got what flows into them
  abbrev pub turned : List Target → (Loc → M) → Loc → M
  turned ts f l = united_over f (origins_by ts l)

  -- what became of the locations by a table of targets, and by an instruction's flow
  abbrev pub Turned : A → Places → A → Places → List Target → Type 0
  Turned old before new now ts = Becomes old before new now (turned ts)

  abbrev pub Turns : A → Places → A → Places → Shape → Type 0
  Turns old before new now shape = Turned old before new now (targets_of shape)

  -- a label means what some locations have together
  abbrev pub MakesOver : A → Places → List Loc → A → Label → Type 0
  MakesOver old p ls new label = Makes words old (united_over (meaning_at old p) ls) new label

  -- lane i means what its origins, as `from` gives them, have together
  abbrev pub MakesFrom : A → Places → (ℕ → List Loc) → A → Lanes → Type 0
  MakesFrom old p from new x = MakesLanes words old 4 (λ i. united_over (meaning_at old p) (from i)) new x

  -- what lane i means together with all lanes of a base register
  abbrev pub based_mean : A → Places → ℕ → Lanes → ℕ → M
  based_mean labels p base x i =
      words.united (united_over (meaning_at labels p) (lanes base)) (words.means labels (lane_at x i))

  abbrev pub MakesBased : A → Places → ℕ → ℕ → Lanes → A → Lanes → Type 0
  MakesBased old p base n x new z = MakesLanes words old n (based_mean old p base x) new z

  -- what a source byte brings in
  abbrev pub introduced : Policy → SourceByte → M
  introduced policy b = if policy.introduces b then words.source b else words.nothing

  -- what the byte that a read received so many bytes behind the one of a number brings in: nothing past the read's end
  abbrev pub introduced_lane : Policy → CallSeen → ℕ → ℕ → M
  introduced_lane policy call i k =
      if nat_lt k (call.length - i) then introduced policy (record { channel = call.channel; offset = call.offset + i + k }) else words.nothing

  -- what each location has after n bytes were received from a place on
  abbrev pub received : Policy → CallSeen → ℕ → (Loc → M) → Loc → M
  received policy call n f l = if is_among call.place n l then introduced policy (byte_at call l) else f l

  -- after an instruction each location has what those that flow into it had; after a call too, but for the bytes that a read
  -- received
  abbrev pub after_call : Policy → CallSeen → (Loc → M) → Loc → M
  after_call policy call f l = if is_received call l then introduced policy (byte_at call l) else united_over f (from_call call l)

  abbrev pub after : Policy → StepSeen → Option CallSeen → (Loc → M) → Loc → M
  after policy step None f l = united_over f (origins_by (flow policy.rule step.instr step.place) l)
  after policy step (Some call) f l = after_call policy call f l

  -- what became of the locations by a step, by a call, and by the bytes that a read received
  abbrev pub AfterStep : Policy → StepSeen → A → Places → A → Places → Type 0
  AfterStep policy step old before new now = Becomes old before new now (after policy step step.call)

  abbrev pub AfterCall : Policy → CallSeen → A → Places → A → Places → Type 0
  AfterCall policy call old before new now = Becomes old before new now (after_call policy call)

  abbrev pub AfterRead : Policy → CallSeen → A → Places → A → Places → Type 0
  AfterRead policy call old before new now = Becomes old before new now (received policy call call.length)
