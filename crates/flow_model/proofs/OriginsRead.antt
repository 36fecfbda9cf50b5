-- Where origins come from, and when they stay. Crates above cite these lemmas.
use Rattle.std.proofs.Common.{◌≡◌, ℕ, zero, suc, ◌+◌, ◌-◌, ◌<◌, ◌≤◌, List, [], ◌∷◌, Bool, true, false, refl, ap, ◌∙◌, arith, add-one, cond}
use Rattle.std.specs.Prelude.{Option, Some, None}
use Rattle.std.specs.List.{AllByRecursion}
use Rattle.std.proofs.lemmas.List.Elements.{All-from_recursion}
use Rattle.flow_model.specs.declared.Loc.{Loc}
use Rattle.flow_model.specs.declared.SourceByte.{SourceByte}
use Rattle.flow_model.specs.declared.StepSeen.{StepSeen}
use Rattle.flow_model.specs.declared.CallSeen.{CallSeen}
use Rattle.lists.specs.Sets.{union}
use Rattle.lists.proofs.Algebra.{All-union}
use Rattle.lists.proofs.Lists.{all-weaken}
use Rattle.flow_model.specs.Orders.{source_cmp}
use Rattle.flow_model.specs.Flow.{from, is_received, from_instruction_or, origins_by, cleared}
use Rattle.flow_model.specs.Origins.{Policy, origins, introduced, fresh, fresh_by, byte_at, union_over, after_step, step_at}
use Rattle.flow_model.specs.OriginLaws.{LeavesAlone, StepKeepsOrigins, StepsKeepOrigins, ReceivedHasItsSource, WasRead, OriginsWereRead}
use Rattle.flow_model.proofs.Origins.{kept}

-- ---- a location that is left alone

step_keeps : (policy : Policy) (l : Loc) (step : Option StepSeen) (before : Loc → List SourceByte) → LeavesAlone policy l step → after_step policy step before l ≡ before l
step_keeps policy l None before h = refl
step_keeps policy l (Some step) before h = kept policy step before l h.0 h.1

pub step_keeps_origins : StepKeepsOrigins
step_keeps_origins policy trace t l h =
    ap (λ (m : ℕ). origins policy trace m l) (add-one t) ∙ step_keeps policy l (step_at trace t) (origins policy trace t) h

pub steps_keep_origins : StepsKeepOrigins
steps_keep_origins policy trace s t l le h = by (t - s) t (omega arith) h where
  by : (n v : ℕ) → v ≡ s + n → ((u : ℕ) → s ≤ u → u < v → LeavesAlone policy l (step_at trace u)) → origins policy trace v l ≡ origins policy trace s l
  by zero v e g = let same : v ≡ s = omega arith in ap (λ (m : ℕ). origins policy trace m l) same
  by (suc n) zero e g = absurd (omega arith)
  by (suc n) (suc v) e g =
      step_keeps policy l (step_at trace v) (origins policy trace v) (g v (omega arith) (omega arith)) ∙ by n v (omega arith) (λ u a b. g u a (omega arith))

-- ---- a byte that a read received

pub introduced_alone : (policy : Policy) (b : SourceByte) → union source_cmp (introduced policy b) [] ≡ introduced policy b
introduced_alone policy b = by (policy.introduces b) where
  by : (c : Bool) → union source_cmp (cond c (b ∷ []) []) [] ≡ cond c (b ∷ []) []
  by true = refl
  by false = refl

fresh_received : (policy : Policy) (call : CallSeen) (l : Loc) → is_received call l ≡ true → fresh_by policy (Some call) l ≡ introduced policy (byte_at call l)
fresh_received policy call l e = ap (λ (b : Bool). cond b (introduced policy (byte_at call l)) []) e

from_received : (policy : Policy) (step : StepSeen) (call : CallSeen) (l : Loc) → is_received call l ≡ true → from_instruction_or policy.rule step (Some call) l ≡ []
from_received policy step call l e = ap (λ (b : Bool). cond b [] (origins_by (cleared call.kind) l)) e

after_received : (policy : Policy) (step : StepSeen) (call : CallSeen) (l : Loc) (before : Loc → List SourceByte) → step.call ≡ Some call → is_received call l ≡ true
    → after_step policy (Some step) before l ≡ introduced policy (byte_at call l)
after_received policy step call l before c e = rw (c, fresh_received policy call l e, from_received policy step call l e) (introduced_alone policy (byte_at call l))

pub received_has_its_source : ReceivedHasItsSource
received_has_its_source policy trace t l step call s c e =
    ap (λ (m : ℕ). origins policy trace m l) (add-one t) ∙ ap (λ (o : Option StepSeen). after_step policy o (origins policy trace t) l) s
    ∙ after_received policy step call l (origins policy trace t) c e

-- ---- each origin was read

all_union_over : (P : SourceByte → Type 0) (before : Loc → List SourceByte) → ((l : Loc) → AllByRecursion P (before l)) → (ls : List Loc) → AllByRecursion P (union_over before ls)
all_union_over P before h [] = tt
all_union_over P before h (l ∷ []) = h l
all_union_over P before h (l ∷ m ∷ ls) = All-union source_cmp P (before l) (union_over before (m ∷ ls)) (h l) (all_union_over P before h (m ∷ ls))

later : (policy : Policy) (trace : List StepSeen) (t : ℕ) (b : SourceByte) → WasRead policy trace t b → WasRead policy trace (suc t) b
later policy trace t b w = record {
  is_introduced = w.is_introduced;
  number = w.number;
  is_before = omega (arith, w.is_before);
  step = w.step;
  is_step = w.is_step;
  call = w.call;
  is_call = w.is_call;
  loc = w.loc;
  is_there = w.is_there;
  is_byte = w.is_byte;
}

fresh_was_read : (policy : Policy) (trace : List StepSeen) (t : ℕ) (l : Loc) (step : StepSeen) → step_at trace t ≡ Some step
    → (c : Option CallSeen) → step.call ≡ c → AllByRecursion (WasRead policy trace (suc t)) (fresh_by policy c l)
fresh_was_read policy trace t l step s None c = tt
fresh_was_read policy trace t l step s (Some call) c = by (is_received call l) refl (policy.introduces (byte_at call l)) refl where
  by : (r : Bool) → is_received call l ≡ r → (b : Bool) → policy.introduces (byte_at call l) ≡ b
      → AllByRecursion (WasRead policy trace (suc t)) (cond r (cond b (byte_at call l ∷ []) []) [])
  by false e b i = tt
  by true e false i = tt
  by true e true i = (
    record {
      is_introduced = i;
      number = t;
      is_before = omega arith;
      step = step;
      is_step = s;
      call = call;
      is_call = c;
      loc = l;
      is_there = e;
      is_byte = refl;
    },
    tt,
  )

origins_by_recursion : (policy : Policy) (trace : List StepSeen) (t : ℕ) (l : Loc) → AllByRecursion (WasRead policy trace t) (origins policy trace t l)
origins_by_recursion policy trace zero l = tt
origins_by_recursion policy trace (suc t) l = by (λ m. all-weaken _ _ (later policy trace t) _ (origins_by_recursion policy trace t m)) (step_at trace t) refl where
  by : ((m : Loc) → AllByRecursion (WasRead policy trace (suc t)) (origins policy trace t m)) → (o : Option StepSeen) → step_at trace t ≡ o
      → AllByRecursion (WasRead policy trace (suc t)) (after_step policy o (origins policy trace t) l)
  by ih None e = ih l
  by ih (Some step) e =
      All-union source_cmp (WasRead policy trace (suc t)) (fresh policy step l) _ (fresh_was_read policy trace t l step e step.call refl)
      (all_union_over (WasRead policy trace (suc t)) (origins policy trace t) ih (from policy.rule step l))

pub origins_were_read : OriginsWereRead
origins_were_read policy trace t l = All-from_recursion (WasRead policy trace t) _ (origins_by_recursion policy trace t l)
