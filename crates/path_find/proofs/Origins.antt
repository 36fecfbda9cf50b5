-- Where a step puts nothing; and a source byte has a path exactly where it is among the origins. Crates above cite these lemmas.
use Rattle.std.proofs.Common.{◌≡◌, ℕ, ◌≤◌, Bool, true, false, if◌then◌else◌, List, [], ◌∷◌, refl, zero, suc, ◌+◌, ap, ap₂, sym, ◌∙◌, arith, add-one}
use Rattle.std.specs.Prelude.{Option, Some, None, ◌||◌, is_some, ◌&&◌, Contains}
use Rattle.flow_model.specs.declared.Loc.{Loc}
use Rattle.flow_model.specs.declared.Rule.{Rule}
use Rattle.flow_model.specs.declared.StepSeen.{StepSeen}
use Rattle.flow_model.specs.declared.CallSeen.{CallSeen}
use Rattle.flow_model.specs.Flow.{Target, flow, cleared, loc_eq, origins_by, is_received, from_instruction_or, from}
use Rattle.flow_model.specs.Origins.{Policy, introduced, byte_at, fresh_by, step_at, origins, fresh, union_over, after_step}
use Rattle.flow_model.specs.OriginLaws.{LeavesAlone}
use Rattle.flow_model.proofs.OriginsRead.{steps_keep_origins}
use Rattle.path_find.specs.Paths.{is_target, puts_by, IsLeft, StandsStill, puts, brings, IsPath, IsRead, IsLatest, first_of, earlier_path, arrived, path_if_put, path_after, path}
use Rattle.std.specs.List.{list_any}
use Rattle.std.specs.Option.{option_or}
use Rattle.std.specs.Ordering.{eq_by_cmp, is_eq}
use Rattle.std.specs.Cmp.{tied_itself}
use Rattle.std.proofs.lemmas.List.Folds.{list_any_at}
use Rattle.std.proofs.Math.Bool.{or-false, or-true}
use Rattle.lists.specs.Sets.{has}
use Rattle.lists.proofs.Algebra.{tied_by, has-union, has-Contains, Contains-has}
use Rattle.lists.proofs.Lists.{list_any-same}
use Rattle.flow_model.specs.declared.SourceByte.{SourceByte}
use Rattle.flow_model.specs.Orders.{source_cmp}
use Rattle.flow_model.proofs.Orders.{source_total, source_same}
use Rattle.flow_model.proofs.Members.{has-union_over}
use Rattle.path_find.specs.declared.Arrival.{Arrival}

-- a location that a table doesn't have keeps its content
not_in : (ts : List Target) (l : Loc) → is_target ts l ≡ false → origins_by ts l ≡ l ∷ []
not_in [] l e = refl
not_in (t ∷ ts) l e = by (loc_eq t.loc l) (not_in ts l) e where
  by : (b : Bool) → (is_target ts l ≡ false → origins_by ts l ≡ l ∷ []) → (b || is_target ts l) ≡ false → (if b then t.origins else origins_by ts l) ≡ l ∷ []
  by true ih e = cc
  by false ih e = ih e

pub stays_by : (rule : Rule) (step : StepSeen) (call : Option CallSeen) (l : Loc) → puts_by rule step call l ≡ false → from_instruction_or rule step call l ≡ l ∷ []
stays_by rule step None l e = not_in (flow rule step.instr step.place) l e
stays_by rule step (Some call) l e = by (is_received call l) e where
  by : (b : Bool) → (b || is_target (cleared call.kind) l) ≡ false → (if b then [] else origins_by (cleared call.kind) l) ≡ l ∷ []
  by true e = cc
  by false e = not_in (cleared call.kind) l e

none_fresh : (policy : Policy) (rule : Rule) (step : StepSeen) (call : Option CallSeen) (l : Loc) → puts_by rule step call l ≡ false → fresh_by policy call l ≡ []
none_fresh policy rule step None l e = refl
none_fresh policy rule step (Some call) l e = by (is_received call l) e where
  by : (b : Bool) → (b || is_target (cleared call.kind) l) ≡ false → (if b then introduced policy (byte_at call l) else []) ≡ []
  by true e = cc
  by false e = refl

pub left_alone : (policy : Policy) (l : Loc) (o : Option StepSeen) → IsLeft policy.rule l o → LeavesAlone policy l o
left_alone policy l None h = tt
left_alone policy l (Some step) h = (stays_by policy.rule step step.call l h, none_fresh policy policy.rule step step.call l h)

-- what stands still keeps its origins
pub still_keeps : (policy : Policy) (trace : List StepSeen) (l : Loc) (a t : ℕ) → a ≤ t → StandsStill policy.rule trace l a t → origins policy trace t l ≡ origins policy trace a l
still_keeps policy trace l a t le h = steps_keep_origins policy trace a t l le (λ u low high. left_alone policy l (step_at trace u) (h u low high))

-- ---- a source byte has a path exactly where it is among the origins

-- ---- the origins after a step, as a test

same_source : (s b : SourceByte) → eq_by_cmp source_cmp s b ≡ true → s ≡ b
same_source s b e = source_same s b (tied_by (source_cmp s b) e)

module _ (policy : Policy) (s : SourceByte) (chosen : policy.introduces s ≡ true) where
  introduced_is : (b : SourceByte) → has source_cmp s (introduced policy b) ≡ eq_by_cmp source_cmp s b
  introduced_is b = by (policy.introduces b) refl (eq_by_cmp source_cmp s b) refl where
    by : (c : Bool) → policy.introduces b ≡ c → (d : Bool) → eq_by_cmp source_cmp s b ≡ d → has source_cmp s (if c then b ∷ [] else []) ≡ eq_by_cmp source_cmp s b
    by true e d f = or-false (eq_by_cmp source_cmp s b)
    by false e true f = let same : policy.introduces b ≡ true = ap policy.introduces (sym (same_source s b f)) ∙ chosen in cc
    by false e false f = sym f

  fresh_is : (call : Option CallSeen) (l : Loc) → has source_cmp s (fresh_by policy call l) ≡ brings s call l
  fresh_is None l = refl
  fresh_is (Some call) l = by (is_received call l) where
    by : (c : Bool) → has source_cmp s (if c then introduced policy (byte_at call l) else []) ≡ (c && eq_by_cmp source_cmp s (byte_at call l))
    by true = introduced_is (byte_at call l)
    by false = refl

  -- after a step s is among the origins where the step reads it, or where a location that flows there had it
  pub has_after : (step : StepSeen) (before : Loc → List SourceByte) (l : Loc)
      → has source_cmp s (after_step policy (Some step) before l) ≡ (brings s step.call l || list_any (λ m. has source_cmp s (before m)) (from policy.rule step l))
  has_after step before l =
      has-union source_total (fresh policy step l) (union_over before (from policy.rule step l)) s
      ∙ ap₂ ◌||◌ (fresh_is step.call l) (has-union_over before (from policy.rule step l) s)

-- ---- whether there is the one path

either_some : {X : Type 0} (o p : Option X) → is_some (option_or o p) ≡ (is_some o || is_some p)
either_some None p = refl
either_some (Some x) p = refl

first_some : (f : Loc → Option (List Arrival)) (ls : List Loc) → is_some (first_of f ls) ≡ list_any (λ m. is_some (f m)) ls
first_some f [] = refl
first_some f (l ∷ ls) = either_some (f l) (first_of f ls) ∙ ap (λ (b : Bool). is_some (f l) || b) (first_some f ls)

arrived_some : (t : ℕ) (l : Loc) (o : Option (List Arrival)) → is_some (arrived t l o) ≡ is_some o
arrived_some t l None = refl
arrived_some t l (Some rest) = refl

read_some : (b : Bool) → is_some {T = List Arrival} (if b then Some [] else None) ≡ b
read_some true = refl
read_some false = refl

earlier_path_some : (rule : Rule) (s : SourceByte) (step : StepSeen) (before : Loc → Option (List Arrival)) (l : Loc)
    → is_some (earlier_path rule s step before l) ≡ (brings s step.call l || list_any (λ m. is_some (before m)) (from rule step l))
earlier_path_some rule s step before l =
    either_some (if brings s step.call l then Some [] else None) (first_of before (from rule step l))
    ∙ ap₂ ◌||◌ (read_some (brings s step.call l)) (first_some before (from rule step l))

module _ (policy : Policy) (s : SourceByte) (chosen : policy.introduces s ≡ true) (trace : List StepSeen) where
  pub one_is : (t : ℕ) (l : Loc) → is_some (path policy.rule s trace t l) ≡ has source_cmp s (origins policy trace t l)
  one_is zero l = refl
  one_is (suc t) l = by (one_is t) (step_at trace t) where
    by : ((m : Loc) → is_some (path policy.rule s trace t m) ≡ has source_cmp s (origins policy trace t m)) → (o : Option StepSeen)
        → is_some (path_after policy.rule s t o (path policy.rule s trace t) l) ≡ has source_cmp s (after_step policy o (origins policy trace t) l)
    by ih None = ih l
    by ih (Some step) = put (puts policy.rule step l) refl where
      put : (b : Bool) → puts policy.rule step l ≡ b
          → is_some (path_if_put b policy.rule s t step (path policy.rule s trace t) l) ≡ has source_cmp s (after_step policy (Some step) (origins policy trace t) l)
      put true e =
          arrived_some t l (earlier_path policy.rule s step (path policy.rule s trace t) l) ∙ earlier_path_some policy.rule s step (path policy.rule s trace t) l
          ∙ ap (λ (b : Bool). brings s step.call l || b) (list_any-same _ _ ih (from policy.rule step l))
          ∙ sym (has_after policy s chosen step (origins policy trace t) l)
      put false e =
          let alone = left_alone policy l (Some step) e in
          let same : after_step policy (Some step) (origins policy trace t) l ≡ origins policy trace t l = rw (alone.0, alone.1) refl in
          ih l ∙ ap (has source_cmp s) (sym same)

-- ---- a path gives an origin

read_brings : (s : SourceByte) (trace : List StepSeen) (a : Arrival) (r : IsRead s trace a) → brings s r.step.call a.loc ≡ true
read_brings s trace a r =
    ap (λ (c : Option CallSeen). brings s c a.loc) r.is_call
    ∙ ap (λ (b : Bool). b && eq_by_cmp source_cmp s (byte_at r.call a.loc)) r.is_there
    ∙ ap (λ (b : SourceByte). eq_by_cmp source_cmp s b) r.is_byte
    ∙ itself
  where
    itself : eq_by_cmp source_cmp s s ≡ true
    itself = ap is_eq (tied_itself source_total s)

module _ (policy : Policy) (s : SourceByte) (chosen : policy.introduces s ≡ true) (trace : List StepSeen) where
  had : ℕ → Loc → Bool
  had t l = has source_cmp s (origins policy trace t l)

  -- what a step brings to a location stands there until a later step puts something
  since : (t : ℕ) (l : Loc) (a : Arrival) (step : StepSeen) → step_at trace a.number ≡ Some step → IsLatest policy.rule trace t l a
      → (brings s step.call a.loc || list_any (λ m. had a.number m) (from policy.rule step a.loc)) ≡ true → had t l ≡ true
  unfolding had
  since t l a step at latest e =
      let now : origins policy trace t l ≡ origins policy trace (a.number + 1) l = still_keeps policy trace l (a.number + 1) t (omega (arith, latest.before)) latest.still in
      ap (has source_cmp s) now
      ∙ ap (λ (m : Loc). has source_cmp s (origins policy trace (a.number + 1) m)) (sym latest.there)
      ∙ ap (λ (n : ℕ). has source_cmp s (origins policy trace n a.loc)) (add-one a.number)
      ∙ ap (λ (o : Option StepSeen). has source_cmp s (after_step policy o (origins policy trace a.number) a.loc)) at
      ∙ has_after policy s chosen step (origins policy trace a.number) a.loc
      ∙ e

  pub path_had : (p : List Arrival) (t : ℕ) (l : Loc) → IsPath policy.rule s trace t l p → has source_cmp s (origins policy trace t l) ≡ true
  unfolding had
  path_had [] t l h = absurd h
  path_had (a ∷ []) t l h =
      since t l a h.1.step h.1.is_step h.0 (ap (λ (b : Bool). b || list_any (λ m. had a.number m) (from policy.rule h.1.step a.loc)) (read_brings s trace a h.1))
  path_had (a ∷ b ∷ bs) t l h =
      let one = path_had (b ∷ bs) a.number b.loc h.2 in
      let c = h.1.flows in
      let some : list_any (λ m. had a.number m) (from policy.rule h.1.step a.loc) ≡ true =
      list_any_at (λ m. had a.number m) (from policy.rule h.1.step a.loc) c.0 b.loc c.1 (ap (had a.number) c.2 ∙ one) in
      since t l a h.1.step h.1.is_step h.0 (ap (λ (r : Bool). brings s h.1.step.call a.loc || r) some ∙ or-true (brings s h.1.step.call a.loc))

  pub contains_had : (t : ℕ) (l : Loc) → has source_cmp s (origins policy trace t l) ≡ true → Contains (origins policy trace t l) s
  contains_had t l e = Contains-has source_total source_same (origins policy trace t l) s e

  pub had_contains : (t : ℕ) (l : Loc) → Contains (origins policy trace t l) s → has source_cmp s (origins policy trace t l) ≡ true
  had_contains t l c = has-Contains source_total (origins policy trace t l) s c
