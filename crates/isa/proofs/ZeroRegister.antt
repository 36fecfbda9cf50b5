-- Nothing sets x0.
use Rattle.std.proofs.Common.{◌≡◌, ℕ, nat_eq, Bool, true, false, if◌then◌else◌, List, get_or, set, refl, sym, ◌∙◌, subst}
use Rattle.std.proofs.lemmas.Bool.{eqb-false}
use Rattle.std.proofs.lemmas.List.{get_or-set_other}
use Rattle.isa.specs.declared.Effect.{Effect}
use Rattle.isa.specs.declared.Effect.TheVariants.{SetRegister, Jump, Branch, Load, Store, MoveOn, EnvironmentCall, Breakpoint}
use Rattle.isa.specs.Machine.{State, Outcome, Retired, Called, Trapped, with_register, in_window, is_aligned, landed, branched, loaded, stored, execute, Fetch, OutsideWindow, Illegal, Fetched, outcome_of, fetch, effect_of}
use Rattle.isa.specs.ZeroRegister.{IsX0Zero, StepKeepsX0, AnswerKeepsX0}

-- a write to a register leaves x0 as it is
kept : (registers : List ℕ) (r v : ℕ) → get_or (with_register registers r v) 0 0 ≡ get_or registers 0 0
kept registers r v = by (nat_eq r 0) refl where
  by : (is_x0 : Bool) → nat_eq r 0 ≡ is_x0 → get_or (if is_x0 then registers else set registers r v) 0 0 ≡ get_or registers 0 0
  by true e = refl
  by false e = get_or-set_other registers r 0 v 0 (λ same. eqb-false r 0 e (sym same))

-- x0 is 0 in the state that an outcome leaves
IsZeroAfter : Outcome → Type 0
IsZeroAfter (Retired s) = IsX0Zero s
IsZeroAfter (Called call) = Unit {0}
IsZeroAfter (Trapped kind) = Unit {0}

landed_keeps : (aligned : Bool) (after : State) → IsX0Zero after → IsZeroAfter (landed aligned after)
unfolding IsZeroAfter
landed_keeps true after is = is
landed_keeps false after is = tt

branched_keeps : (s : State) (taken : Bool) (target : ℕ) → IsX0Zero s → IsZeroAfter (branched s taken target)
unfolding IsZeroAfter
branched_keeps s true target is = landed_keeps (is_aligned target) _ is
branched_keeps s false target is = is

loaded_keeps : (s : State) (inside : Bool) (d address n : ℕ) (is_signed : Bool) → IsX0Zero s → IsZeroAfter (loaded s inside d address n is_signed)
unfolding IsZeroAfter
loaded_keeps s true d address n is_signed is = kept s.registers d _ ∙ is
loaded_keeps s false d address n is_signed is = tt

stored_keeps : (s : State) (inside : Bool) (address n v : ℕ) → IsX0Zero s → IsZeroAfter (stored s inside address n v)
unfolding IsZeroAfter
stored_keeps s true address n v is = is
stored_keeps s false address n v is = tt

executed_keeps : (s : State) (e : Effect) → IsX0Zero s → IsZeroAfter (execute s e)
unfolding IsZeroAfter
executed_keeps s (SetRegister d v) is = kept s.registers d v ∙ is
executed_keeps s (Jump d target) is = landed_keeps (is_aligned target) _ (kept s.registers d _ ∙ is)
executed_keeps s (Branch taken target) is = branched_keeps s taken target is
executed_keeps s (Load d address n is_signed) is = loaded_keeps s (in_window s address n) d address n is_signed is
executed_keeps s (Store address n v) is = stored_keeps s (in_window s address n) address n v is
executed_keeps s MoveOn is = is
executed_keeps s EnvironmentCall is = tt
executed_keeps s Breakpoint is = tt

fetched_keeps : (s : State) (f : Fetch) → IsX0Zero s → IsZeroAfter (outcome_of s f)
unfolding IsZeroAfter
fetched_keeps s OutsideWindow is = tt
fetched_keeps s Illegal is = tt
fetched_keeps s (Fetched i) is = executed_keeps s (effect_of s i) is

pub step_keeps : StepKeepsX0
unfolding IsZeroAfter
step_keeps before after is e = subst IsZeroAfter e (fetched_keeps before (fetch before) is)

pub answer_keeps : AnswerKeepsX0
answer_keeps s is = record {
  read = λ address result bytes. kept s.registers 10 _ ∙ is;
  write = λ result. kept s.registers 10 _ ∙ is;
  clock = λ value. kept (with_register s.registers 10 _) 11 _ ∙ (kept s.registers 10 _ ∙ is);
  other = kept s.registers 10 _ ∙ is;
  exit = is;
}
