-- What a step makes of the paths of a trail is what the definitions make of them.
use Rattle.std.proofs.Common.{◌≡◌, ℕ, ◌+◌, Bool, true, false, if◌then◌else◌, List, [], ◌∷◌, refl, ap, ap₂, sym, ◌∙◌, add-one}
use Rattle.std.specs.Prelude.{Option, Some, None, ◌&&◌, ◌||◌}
use Rattle.std.specs.Option.{option_or}
use Rattle.std.specs.Ordering.{eq_by_cmp}
use Rattle.flow_model.specs.declared.Loc.{Loc}
use Rattle.flow_model.specs.declared.Rule.{Rule}
use Rattle.flow_model.specs.declared.SourceByte.{SourceByte}
use Rattle.flow_model.specs.declared.StepSeen.{StepSeen}
use Rattle.flow_model.specs.declared.CallSeen.{CallSeen}
use Rattle.flow_model.specs.Orders.{source_cmp}
use Rattle.flow_model.specs.Flow.{Target, flow, cleared, origins_by, loc_eq, is_received, from_instruction_or}
use Rattle.flow_model.specs.Origins.{byte_at, step_at}
use Rattle.flow_model.specs.Ranges.{IsLocation, AreLocations, IsTable, IsInRange}
use Rattle.flow_model.proofs.Located.{flow_table, cleared_table}
use Rattle.path_find.specs.declared.Arrival.{Arrival}
use Rattle.path_find.specs.Paths.{is_target, puts_by, puts, brings, first_of, earlier_path, arrived, path_if_put, path_after, path}
use Rattle.path_find.specs.declared.nodes.Node.{Node}
use Rattle.path_find.specs.declared.carriers.Carriers.{Carriers}
use Rattle.path_find.specs.declared.trail.Trail.{Trail}
use Rattle.path_find.specs.Trails.{told, Carries, Calls, carried, received, IsAfter}

-- ---- as the definitions say it

abbrev Paths : Type 0
Paths = Loc → Option (List Arrival)

-- a target has the first path of its origins
carried_is : (t : ℕ) (f : Paths) (ts : List Target) (l : Loc) → carried t f ts l ≡ (if is_target ts l then arrived t l (first_of f (origins_by ts l)) else f l)
carried_is t f [] l = refl
carried_is t f (x ∷ ts) l = by (carried_is t f ts l) (loc_eq x.loc l) where
  by : carried t f ts l ≡ (if is_target ts l then arrived t l (first_of f (origins_by ts l)) else f l) → (b : Bool) → (if b then arrived t l (first_of f x.origins) else carried t f ts l)
      ≡ (if (b || is_target ts l) then arrived t l (first_of f (if b then x.origins else origins_by ts l)) else f l)
  by ih true = refl
  by ih false = ih

-- the paths after a step, by the call that it is, if it is one
abbrev put_by : Rule → SourceByte → StepSeen → Paths → Loc → Option CallSeen → Option (List Arrival)
put_by rule s step f l call =
    if puts_by rule step call l then arrived step.number l (option_or (if brings s call l then Some [] else None) (first_of f (from_instruction_or rule step call l))) else f l

put_is : (rule : Rule) (s : SourceByte) (step : StepSeen) (f : Paths) (l : Loc) → path_if_put (puts rule step l) rule s step.number step f l ≡ put_by rule s step f l step.call
put_is rule s step f l = by (puts rule step l) where
  by : (b : Bool) → path_if_put b rule s step.number step f l ≡ (if b then arrived step.number l (earlier_path rule s step f l) else f l)
  by true = refl
  by false = refl

by_instruction : (rule : Rule) (s : SourceByte) (step : StepSeen) (f : Paths) (l : Loc) → put_by rule s step f l None ≡ carried step.number f (flow rule step.instr step.place) l
by_instruction rule s step f l = sym (carried_is step.number f (flow rule step.instr step.place) l)

by_call : (rule : Rule) (s : SourceByte) (step : StepSeen) (f : Paths) (l : Loc) (call : CallSeen)
    → put_by rule s step f l (Some call) ≡ received s step.number call (carried step.number f (cleared call.kind)) l
by_call rule s step f l call = by (is_received call l) where
  alone : (b : Bool) → option_or {T = List Arrival} (if b then Some [] else None) None ≡ (if b then Some [] else None)
  alone true = refl
  alone false = refl

  by : (r : Bool) → (if (r || is_target (cleared call.kind) l) then arrived step.number l (option_or (if (r && eq_by_cmp source_cmp s (byte_at call l)) then Some [] else None) (first_of f (if r then [] else origins_by (cleared call.kind) l))) else f l)
      ≡ (if r then arrived step.number l (if eq_by_cmp source_cmp s (byte_at call l) then Some [] else None) else carried step.number f (cleared call.kind) l)
  by true = ap (arrived step.number l) (alone (eq_by_cmp source_cmp s (byte_at call l)))
  by false = sym (carried_is step.number f (cleared call.kind) l)

-- ---- paths that are the same at each location

module _ (f g : Loc → Option (List Arrival)) (same : (l : Loc) → IsLocation l → f l ≡ g l) where
  first_same : (ls : List Loc) → AreLocations ls → first_of f ls ≡ first_of g ls
  first_same [] h = refl
  first_same (l ∷ ls) h = ap₂ option_or (same l h.0) (first_same ls h.1)

  carried_same : (t : ℕ) (ts : List Target) → IsTable ts → (l : Loc) → IsLocation l → carried t f ts l ≡ carried t g ts l
  carried_same t [] h l here = same l here
  carried_same t (x ∷ ts) h l here =
      ap₂ (λ (a b : Option (List Arrival)). if loc_eq x.loc l then arrived t l a else b) (first_same x.origins h.1) (carried_same t ts h.2 l here)

-- ---- one step

one_more : (rule : Rule) (s : SourceByte) (trace : List StepSeen) (step : StepSeen) (l : Loc) → step_at trace step.number ≡ Some step
    → put_by rule s step (path rule s trace step.number) l step.call ≡ path rule s trace (step.number + 1) l
one_more rule s trace step l at =
    sym (put_is rule s step (path rule s trace step.number) l)
    ∙ ap (λ (o : Option StepSeen). path_after rule s step.number o (path rule s trace step.number) l) (sym at)
    ∙ ap (λ (n : ℕ). path rule s trace n l) (sym (add-one step.number))

-- the trail of the source byte, with its new parts
abbrev pub moved_on : Trail → List Node → Carriers → Trail
moved_on trail nodes carriers = record trail { nodes = nodes; carriers = carriers }

pub instruction_followed : (rule : Rule) (s : SourceByte) (trace : List StepSeen) (step : StepSeen) (trail : Trail) (nodes : List Node) (carriers : Carriers) → IsInRange step → step.call ≡ None
    → step_at trace step.number ≡ Some step → IsAfter rule s trace step.number trail
    → Carries trail.nodes trail.carriers step.number (flow trail.rule step.instr step.place) nodes carriers → IsAfter rule s trace (step.number + 1) (moved_on trail nodes carriers)
instruction_followed rule s trace step trail nodes carriers range none at was b = record {
  rule_is = was.rule_is;
  source_is = was.source_is;
  paths = λ l here. b.paths l here
      ∙ ap (λ (r : Rule). carried step.number (told trail.nodes trail.carriers) (flow r step.instr step.place) l) was.rule_is
      ∙ carried_same (told trail.nodes trail.carriers) (path rule s trace step.number) was.paths step.number (flow rule step.instr step.place) (flow_table rule step.instr step.place range.fits) l here
      ∙ sym (by_instruction rule s step (path rule s trace step.number) l)
      ∙ ap (put_by rule s step (path rule s trace step.number) l) (sym none)
      ∙ one_more rule s trace step l at;
  is_trail = b.standing;
}

pub call_followed : (rule : Rule) (s : SourceByte) (trace : List StepSeen) (step : StepSeen) (call : CallSeen) (trail : Trail) (nodes : List Node) (carriers : Carriers) → step.call ≡ Some call
    → step_at trace step.number ≡ Some step → IsAfter rule s trace step.number trail
    → Calls trail.nodes trail.carriers trail.source step.number call nodes carriers → IsAfter rule s trace (step.number + 1) (moved_on trail nodes carriers)
call_followed rule s trace step call trail nodes carriers some at was b = record {
  rule_is = was.rule_is;
  source_is = was.source_is;
  paths = λ l here. b.paths l here
      ∙ ap (λ (x : SourceByte). received x step.number call (carried step.number (told trail.nodes trail.carriers) (cleared call.kind)) l) was.source_is
      ∙ ap (λ (o : Option (List Arrival)). if is_received call l then arrived step.number l (if eq_by_cmp source_cmp s (byte_at call l) then Some [] else None) else o)
      (carried_same (told trail.nodes trail.carriers) (path rule s trace step.number) was.paths step.number (cleared call.kind) (cleared_table call.kind) l here)
      ∙ sym (by_call rule s step (path rule s trace step.number) l call)
      ∙ ap (put_by rule s step (path rule s trace step.number) l) (sym some)
      ∙ one_more rule s trace step l at;
  is_trail = b.standing;
}
