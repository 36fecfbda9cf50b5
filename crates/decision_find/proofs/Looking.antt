-- The look before a step of a run is that of the moment, and so is the look at a trap.
use Rattle.std.proofs.Common.{◌≡◌, ℕ, ◌≤◌, ◌⊎◌, inl, inr, Bool, true, false, List, [], ◌∷◌, refl, ap, ap₂, sym, ◌∙◌, subst, arith}
use Rattle.std.specs.Prelude.{Option, Some, None, MatchOption}
use Rattle.std.proofs.lemmas.Option.{same_Some}
use Rattle.isa.specs.declared.Call.{Call}
use Rattle.isa.specs.declared.CallKind.{CallKind}
use Rattle.isa.specs.declared.CallKind.TheVariants as kind
use Rattle.isa.specs.declared.Effect.{Effect}
use Rattle.isa.specs.declared.Effect.TheVariants.{Jump, Branch, Load, Store, EnvironmentCall}
use Rattle.isa.specs.declared.Instr.{Instr}
use Rattle.isa.specs.declared.Instr.TheVariants.{Ecall}
use Rattle.isa.specs.Machine.{State, Outcome, Retired, Called, Trapped, reg, kind_of, call_of, execute, effect_of, landed, branched, loaded, stored, is_aligned, Fetch, Fetched, OutsideWindow, Illegal, fetch, outcome_of, next}
use Rattle.log_model.specs.declared.CallRecord.{CallRecord}
use Rattle.log_model.specs.declared.CallRecord.TheVariants.{Read, Write, Clock, Other}
use Rattle.log_model.specs.declared.RunEnd.TheVariants.{Trap}
use Rattle.log_model.specs.Logs.{Log, steps, steps_by, end_at}
use Rattle.flow_model.specs.declared.Rule.{Rule}
use Rattle.flow_model.specs.declared.StepSeen.{StepSeen}
use Rattle.replay_model.specs.Run.{Moment, start, call_seen, plain_step, step_by, step_of}
use Rattle.replay_model.proofs.Offsets.{step_at_from, steps_within}
use Rattle.replay_model.proofs.Track.{on_track_at}
use Rattle.replayer.specs.Jobs.{Job, IsJob}
use Rattle.decision_find.specs.Decides.{decides}
use Rattle.decision_find.specs.Decisions.{instr_of, decides_fetched}
use Rattle.decision_find.proofs.Answered.{IsCallAt, IsDoneAt, done_at, traps_at}
use Rattle.decision_find.specs.declared.looks.Look.{Look}
use Rattle.decision_find.specs.Looks.{look_at_step, kind_seen, IsLookAt}
use Rattle.decision_find.specs.Following.{IsStepOf, moment_of}

-- ---- which instructions are calls

abbrev NoCall : Outcome → Type 0
NoCall (Retired s) = Unit {0}
NoCall (Called call) = ⊥
NoCall (Trapped kind) = Unit {0}

not_landed : (b : Bool) (s : State) → NoCall (landed b s)
not_landed true s = tt
not_landed false s = tt

not_branched : (s : State) (taken : Bool) (target : ℕ) → NoCall (branched s taken target)
not_branched s true target = not_landed (is_aligned target) _
not_branched s false target = tt

not_loaded : (s : State) (held : Bool) (d a n : ℕ) (is_signed : Bool) → NoCall (loaded s held d a n is_signed)
not_loaded s true d a n is_signed = tt
not_loaded s false d a n is_signed = tt

not_stored : (s : State) (held : Bool) (a n v : ℕ) → NoCall (stored s held a n v)
not_stored s true a n v = tt
not_stored s false a n v = tt

abbrev IsNoCall : Effect → Type 0
IsNoCall EnvironmentCall = ⊥
IsNoCall effect = Unit {0}

not_called : (s : State) (effect : Effect) → IsNoCall effect → NoCall (execute s effect)
not_called s (Jump d target) h = not_landed (is_aligned target) _
not_called s (Branch taken target) h = not_branched s taken target
not_called s (Load d a n is_signed) h = not_loaded s _ d a n is_signed
not_called s (Store a n v) h = not_stored s _ a n v
not_called s EnvironmentCall h = absurd h
not_called s effect h = tt

-- an instruction that is no call: the kind that a call would be of makes no difference
record IsOther (s : State) (i : Instr) : Type 0 where
  kinds : (rule : Rule) (j k : CallKind) → decides rule j i ≡ decides rule k i
  no_call : NoCall (execute s (effect_of s i))

other_or_call : (s : State) (i : Instr) → IsOther s i ⊎ (i ≡ Ecall)
other_or_call s Ecall = inr refl
other_or_call s i = inl (record { kinds = λ rule j k. refl; no_call = not_called s (effect_of s i) tt })

-- ---- the look before a step

-- what a step shows of the state before it, in which this was fetched
record IsShown (s : State) (f : Fetch) (step : StepSeen) : Type 0 where
  instr : Some step.instr ≡ instr_of f
  decides_too : (rule : Rule)
      → decides_fetched rule (kind_seen step.call) (Some step.instr) ≡ decides_fetched rule (kind_of (reg s 17)) (instr_of f)

called_no_step : {A : Type 0} (call : Call) (x : State) → Called call ≡ Retired x → A
called_no_step call x e = cc

same_call : (c d : Call) → Called c ≡ Called d → c ≡ d
same_call c d e = cc

-- the kind of call that is seen is that of the record that answers it, or the exit
seen_kind : (m : Moment) (left : List CallRecord) (call : Call) (log : Log) → IsCallAt log m.time m.state call left → (call_seen m left).kind ≡ call.kind
seen_kind m [] call log h = sym h.0
seen_kind m (Read at args result bytes ∷ rs) call log h = sym h.3
seen_kind m (Write at args result bytes ∷ rs) call log h = sym h.3
seen_kind m (Clock at value ∷ rs) call log h = sym h.3
seen_kind m (Other at number ∷ rs) call log h = sym h.3

module _ (log : Log) (m : Moment) (i : Instr) (is : fetch m.state ≡ Fetched i) where
  by_step : (x : State) → execute m.state (effect_of m.state i) ≡ Retired x → IsOther m.state i ⊎ (i ≡ Ecall)
      → IsShown m.state (fetch m.state) (step_by m (Retired x))
  by_step x g (inl other) = subst (λ (f : Fetch). IsShown m.state f (plain_step m.time m.state f)) (sym is)
      (record { instr = refl; decides_too = λ rule. other.kinds rule kind.Other (kind_of (reg m.state 17)) })
  by_step x g (inr same) =
      called_no_step (call_of m.state) x (subst (λ (j : Instr). execute m.state (effect_of m.state j) ≡ Retired x) same g)

  by_call : (call : Call) → execute m.state (effect_of m.state i) ≡ Called call → IsCallAt log m.time m.state call m.left → IsOther m.state i ⊎ (i ≡ Ecall)
      → IsShown m.state (fetch m.state) (step_by m (Called call))
  by_call call g h (inl other) = absurd (subst NoCall g other.no_call)
  by_call call g h (inr same) =
      let registers : call_of m.state ≡ call = same_call (call_of m.state) call (subst (λ (j : Instr). execute m.state (effect_of m.state j) ≡ Called call) same g) in
      let kinds : (call_seen m m.left).kind ≡ kind_of (reg m.state 17) = seen_kind m m.left call log h ∙ ap (λ (c : Call). c.kind) (sym registers) in
      let found : instr_of (fetch m.state) ≡ Some Ecall = ap instr_of is ∙ ap Some same in
      record {
        instr = sym found;
        decides_too = λ rule. ap₂ (λ (k : CallKind) (o : Option Instr). decides_fetched rule k o) kinds (sym found);
      }

  by_fetched : (o : Outcome) → execute m.state (effect_of m.state i) ≡ o → IsDoneAt log m.time m.state m.left o → IsShown m.state (fetch m.state) (step_by m o)
  by_fetched (Retired x) g h = by_step x g (other_or_call m.state i)
  by_fetched (Called call) g h = by_call call g h (other_or_call m.state i)
  by_fetched (Trapped k) g h = absurd h

by_fetch : (log : Log) (m : Moment) (f : Fetch) → fetch m.state ≡ f → IsDoneAt log m.time m.state m.left (next m.state) → IsShown m.state (fetch m.state) (step_of m)
by_fetch log m OutsideWindow e h = absurd (subst (λ (f : Fetch). IsDoneAt log m.time m.state m.left (outcome_of m.state f)) e h)
by_fetch log m Illegal e h = absurd (subst (λ (f : Fetch). IsDoneAt log m.time m.state m.left (outcome_of m.state f)) e h)
by_fetch log m (Fetched i) e h =
    let same : next m.state ≡ execute m.state (effect_of m.state i) = ap (outcome_of m.state) e in
    by_fetched log m i e (next m.state) (sym same) h

pub looks_at_step : (job : Job) (pc : ℕ) (s : StepSeen) → IsStepOf job pc s → IsLookAt (moment_of job s.number) (look_at_step pc s)
looks_at_step job pc s is =
    let t = s.number in
    let m = moment_of job t in
    let there = on_track_at job.log job.start t is.is_job.form is.is_job.agrees within in
    let time : m.time ≡ t = there.time in
    let made : s ≡ step_of m = same_Some s (step_of m) (sym is.step ∙ step_at_from (steps job.log) t (start job.start job.log) is.below) in
    let done : IsDoneAt job.log m.time m.state m.left (next m.state) =
    subst (λ (k : ℕ). IsDoneAt job.log k m.state m.left (next m.state)) (sym time) (done_at job.log job.start t is.is_job.form is.is_job.agrees is.below) in
    let shown : IsShown m.state (fetch m.state) s = subst (IsShown m.state (fetch m.state)) (sym made) (by_fetch job.log m (fetch m.state) refl done) in
    record { time = sym time; pc = is.at_pc; instr = shown.instr; decides = shown.decides_too }
  where
    within : s.number ≤ end_at job.log.end
    within = let last = steps_within job.log.end in let below = is.below in omega arith

-- ---- the look at a trap

-- with what was fetched there, the kind of a call makes no difference
pub looks_at_trap : (m : Moment) (look : Look) → (k : ℕ) → next m.state ≡ Trapped k → look.time ≡ m.time → look.pc ≡ m.state.pc → look.instr ≡ instr_of (fetch m.state)
    → IsLookAt m look
looks_at_trap m look k e time pc instr = record {
  time = time;
  pc = pc;
  instr = instr;
  decides = λ rule. ap (decides_fetched rule look.kind) instr ∙ by rule (fetch m.state) e;
}
  where
    called_no_trap : (call : Call) → Called call ≡ Trapped k → ⊥
    called_no_trap call h = cc

    of_instr : (rule : Rule) (i : Instr) → IsOther m.state i ⊎ (i ≡ Ecall) → execute m.state (effect_of m.state i) ≡ Trapped k
        → decides rule look.kind i ≡ decides rule (kind_of (reg m.state 17)) i
    of_instr rule i (inl other) h = other.kinds rule look.kind (kind_of (reg m.state 17))
    of_instr rule i (inr same) h =
        absurd (called_no_trap (call_of m.state) (subst (λ (j : Instr). execute m.state (effect_of m.state j) ≡ Trapped k) same h))

    by : (rule : Rule) (f : Fetch) → outcome_of m.state f ≡ Trapped k → decides_fetched rule look.kind (instr_of f) ≡ decides_fetched rule (kind_of (reg m.state 17)) (instr_of f)
    by rule OutsideWindow h = refl
    by rule Illegal h = refl
    by rule (Fetched i) h = of_instr rule i (other_or_call m.state i) h

-- what a cursor says that it fetched
fetched_is : (o : Option Instr) (f : Fetch) → MatchOption o ((i : Instr) → f ≡ Fetched i → ⊥) (λ i. f ≡ Fetched i) → o ≡ instr_of f
fetched_is None OutsideWindow h = refl
fetched_is None Illegal h = refl
fetched_is None (Fetched i) h = absurd (h i refl)
fetched_is (Some i) f h = ap instr_of (sym h)

-- the look of a run that stands where it traps
pub looks_at_end : (job : Job) (s : State) (look : Look) (at k pc : ℕ) → IsJob job → s ≡ (moment_of job (steps job.log)).state → job.log.end ≡ Trap at k pc
    → look.time ≡ steps job.log → look.pc ≡ s.pc → MatchOption look.instr ((i : Instr) → fetch s ≡ Fetched i → ⊥) (λ i. fetch s ≡ Fetched i)
    → IsLookAt (moment_of job (steps job.log)) look
looks_at_end job s look at k pc is state e time here there =
    let n = steps job.log in
    let last : n ≡ at = ap steps_by e in
    let end : end_at job.log.end ≡ at = ap end_at e in
    let m = moment_of job n in
    let moment_time : m.time ≡ n = (on_track_at job.log job.start n is.form is.agrees (omega arith)).time in
    let traps : next m.state ≡ Trapped k = subst (λ (t : ℕ). next (moment_of job t).state ≡ Trapped k) (sym last) (traps_at job.log job.start at k pc is.form is.agrees e).traps in
    looks_at_trap m look k traps (time ∙ sym moment_time) (here ∙ ap (λ (x : State). x.pc) state)
    (fetched_is look.instr (fetch s) there ∙ ap (λ (x : State). instr_of (fetch x)) state)
