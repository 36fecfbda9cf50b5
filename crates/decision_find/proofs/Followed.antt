-- A step that is followed: its look is noted, and the labels are turned.
use Rattle.std.proofs.Common.{◌≡◌, ℕ, zero, suc, ◌+◌, List, [], ◌++◌, refl, ap, ap₂, sym, ◌∙◌, subst, add-one, append_assoc, append-nil, ◌<◌, true, arith}
use Rattle.std.specs.Prelude.{Option, MatchOption}
use Rattle.isa.specs.declared.Instr.{Instr}
use Rattle.isa.specs.Machine.{fetch, Fetched}
use Rattle.log_model.specs.Logs.{steps, steps_by}
use Rattle.flow_model.specs.declared.Loc.{Loc}
use Rattle.flow_model.specs.declared.Rule.{Rule}
use Rattle.flow_model.specs.declared.StepSeen.{StepSeen}
use Rattle.flow_model.specs.Origins.{Policy, origins}
use Rattle.report_model.specs.Query.{Query, has_source}
use Rattle.replay_model.specs.Run.{Moment, start, advance, moment_after}
use Rattle.replayer.specs.Jobs.{Job, trace_of, IsJob}
use Rattle.taint_shadow.specs.declared.places.Places.{Places}
use Rattle.taint_shadow.specs.Labels.{start_label}
use Rattle.taint_shadow.specs.Places.{AreKept}
use Rattle.taint_shadow.specs.Steps.{Holds, after}
use Rattle.taint_shadow.proofs.Meaning.{holds_kept}
use Rattle.decision_find.specs.Decides.{deciding_rule}
use Rattle.decision_find.specs.Decisions.{Decision, decisions, decided_at, decided_from, moments_seen, instr_of, fetched_from}
use Rattle.decision_find.specs.declared.looks.Look.{Look}
use Rattle.decision_find.specs.declared.tracking.DecisionTracking.{DecisionTracking}
use Rattle.source_labels.specs.Words.{label_words}
use Rattle.source_labels.specs.Laws.{label_laws}
use Rattle.source_labels.proofs.Origins.{origins_later}
use Rattle.decision_find.specs.Looks.{IsLookAt, look_at_step, looked_at, listed}
use Rattle.decision_find.specs.Groups.{AreGroups, HaveLabels}
use Rattle.decision_find.specs.Following.{IsSound, IsTracked, IsStepOf, IsTurned, Notes, HasDecisions, deciding_policy, moment_of, TracksStep}
use Rattle.decision_find.proofs.Counted.{groups_kept}
use Rattle.decision_find.proofs.Looking.{looks_at_step, looks_at_end}
use Rattle.std.proofs.lemmas.Bool.{eqb-true}
use Rattle.log_model.specs.declared.RunEnd.{RunEnd}
use Rattle.log_model.specs.declared.RunEnd.TheVariants.{Exit, Trap, Limit}
use Rattle.replay_run.specs.Runs.{RunAt}
use Rattle.replayer.specs.Cursors.{Stands}
use Rattle.replayer.specs.Watching.{IsMadeOf}
use Rattle.decision_find.specs.Traps.{trap_time, traps_at}
use Rattle.decision_find.specs.Watched.{IsFollowed}

-- ---- the decisions of one moment more

decided_push : (policy : Policy) (trace : List StepSeen) (n : ℕ) (m : Moment) → decided_from policy trace (suc n) m ≡ decided_from policy trace n m ++ decided_at policy trace (moment_after n m)
decided_push policy trace zero m = append-nil (decided_at policy trace m)
decided_push policy trace (suc n) m =
    ap (λ (ds : List Decision). decided_at policy trace m ++ ds) (decided_push policy trace n (advance m))
    ∙ sym (append_assoc (decided_at policy trace m) (decided_from policy trace n (advance m)) (decided_at policy trace (moment_after n (advance m))))

pub decided_more : (policy : Policy) (trace : List StepSeen) (n : ℕ) (m : Moment) → decided_from policy trace (n + 1) m ≡ decided_from policy trace n m ++ decided_at policy trace (moment_after n m)
decided_more policy trace n m = ap (λ (k : ℕ). decided_from policy trace k m) (add-one n) ∙ decided_push policy trace n m

-- what a look at a moment lists are the decisions there
look_lists : (policy : Policy) (trace : List StepSeen) (m : Moment) (look : Look) → IsLookAt m look
    → listed look (origins policy trace look.time) (looked_at policy.rule look) ≡ decided_at policy trace m
look_lists policy trace m look is =
    ap (λ (ls : List Loc). listed look (origins policy trace look.time) ls) here ∙ ap (λ (x : Look). listed x (origins policy trace x.time) (decisions policy.rule m.state)) same
  where
    here : looked_at policy.rule look ≡ decisions policy.rule m.state
    here = ap₂ (λ (xs ys : List Loc). xs ++ ys) (is.decides policy.rule) (ap fetched_from is.pc)

    made : ℕ → ℕ → Option Instr → Look
    made t p i = record { time = t; pc = p; instr = i; kind = look.kind }

    same : look ≡ made m.time m.state.pc (instr_of (fetch m.state))
    same = ap (λ (t : ℕ). made t look.pc look.instr) is.time ∙ ap₂ (λ (p : ℕ) (i : Option Instr). made m.time p i) is.pc is.instr

-- ---- a tracking after one look more

-- what is tracked is kept where a look is noted: the decisions of its moment are counted too
module _ (q : Query) (job : Job) (t : ℕ) (look : Look) (old mid : DecisionTracking) (h : IsTracked q job t old) (is : IsLookAt (moment_of job t) look) (time : look.time ≡ t)
    (noted : Notes look (looked_at old.rule look) old mid) where
  pub holds_still : Holds label_words mid.labels mid.places (origins (deciding_policy q) (trace_of job) t)
  holds_still =
      let same : mid.places ≡ old.places = ap (λ (x : DecisionTracking). x.places) noted.rest in
      subst (λ (p : Places). Holds label_words mid.labels p (origins (deciding_policy q) (trace_of job) t)) (sym same)
      (holds_kept label_words old.labels mid.labels old.places (origins (deciding_policy q) (trace_of job) t) noted.keeps h.sound.locations h.holds)

  pub groups_more : AreGroups mid.labels (decided_from (deciding_policy q) (trace_of job) (t + 1) (start job.start job.log)) mid.groups
  groups_more =
      let p = deciding_policy q in
      let trace = trace_of job in
      let first = start job.start job.log in
      let f = origins p trace t in
      let lists : listed look f (looked_at old.rule look) ≡ decided_at p trace (moment_after t first) =
      ap₂ (λ (k : ℕ) (r : Rule). listed look (origins p trace k) (looked_at r look)) (sym time) h.rule ∙ look_lists p trace (moment_after t first) look is in
      let counted = noted.groups f (decided_from p trace t first) h.holds h.groups in
      subst (λ (ds : List Decision). AreGroups mid.labels ds mid.groups)
      (ap (λ (ds : List Decision). decided_from p trace t first ++ ds) lists ∙ sym (decided_more p trace t first)) counted

-- ---- a step

abbrev policy_with : Rule → Query → Policy
policy_with rule q = record { rule = rule; introduces = has_source q }

pub step_followed : (q : Query) (job : Job) (pc : ℕ) (s : StepSeen) (old mid new : DecisionTracking) → IsStepOf job pc s → IsTracked q job s.number old
    → Notes (look_at_step pc s) (looked_at old.rule (look_at_step pc s)) old mid → IsTurned s mid new → IsSound new → IsTracked q job (s.number + 1) new
step_followed q job pc s old mid new is h noted turned sound =
    let t = s.number in
    let p = deciding_policy q in
    let trace = trace_of job in
    let look = look_at_step pc s in
    let seen = looks_at_step job pc s is in
    let query : mid.query.now ≡ q = ap (λ (x : DecisionTracking). x.query.now) noted.rest ∙ h.query in
    let rule : mid.rule ≡ deciding_rule q.rule = ap (λ (x : DecisionTracking). x.rule) noted.rest ∙ h.rule in
    let policy : policy_with mid.rule mid.query.now ≡ p = ap₂ policy_with rule query in
    let becomes = turned.labels.holds (origins p trace t) (holds_still q job t look old mid h seen refl noted) in
    let by_policy = subst (λ (x : Policy). Holds label_words new.labels new.places (after label_words x s s.call (origins p trace t))) policy becomes in
    let groups = groups_kept mid.labels new.labels turned.labels.keeps _ mid.groups (groups_more q job t look old mid h seen refl noted) in
    let same : new.groups ≡ mid.groups = ap (λ (x : DecisionTracking). x.groups) turned.rest in
    record {
      query = ap (λ (x : DecisionTracking). x.query.now) turned.rest ∙ query;
      rule = ap (λ (x : DecisionTracking). x.rule) turned.rest ∙ rule;
      sound = sound;
      holds = record { at = λ l here. by_policy.at l here ∙ origins_later p trace t s l is.step };
      groups = subst (AreGroups new.labels _) (sym same) groups;
    }

-- ---- the beginning and the end

pub sound_first : (t : DecisionTracking) → AreKept t.places start_label → HaveLabels t.labels t.groups → IsSound t
sound_first t kept groups = record {
  locations = record { at = λ l here. subst (label_words.stands t.labels) (sym (kept.at l here)) (label_laws.of_start t.labels l here).stands };
  groups = groups;
}

pub begun : (q : Query) (job : Job) (t : DecisionTracking) → t.query.now ≡ q → t.rule ≡ deciding_rule q.rule → AreKept t.places start_label
    → HaveLabels t.labels t.groups → AreGroups t.labels [] t.groups → IsTracked q job 0 t
begun q job t query rule kept groups none = record {
  query = query;
  rule = rule;
  sound = sound_first t kept groups;
  holds = record { at = λ l here. ap (label_words.means t.labels) (kept.at l here) ∙ (label_laws.of_start t.labels l here).means };
  groups = none;
}

-- a run that traps is seen where it traps too
pub seen_at_trap : (q : Query) (job : Job) (look : Look) (old new : DecisionTracking) → IsLookAt (moment_of job (steps job.log)) look → look.time ≡ steps job.log
    → moments_seen job.log.end ≡ steps job.log + 1 → Notes look (looked_at old.rule look) old new → HaveLabels new.labels new.groups
    → IsTracked q job (steps job.log) old → HasDecisions q job new
seen_at_trap q job look old new is time e noted sound h = record {
  sound = sound;
  groups = subst (λ (n : ℕ). AreGroups new.labels (decided_from (deciding_policy q) (trace_of job) n (start job.start job.log)) new.groups) (sym e)
      (groups_more q job (steps job.log) look old new h is time noted);
}

-- ---- the end of a run

-- a run that traps at a time ends by that trap
record IsTrapAt (ends : RunEnd) (t : ℕ) : Type 0 where
  kind : ℕ
  pc : ℕ
  is : ends ≡ Trap t kind pc

trap_there : (ends : RunEnd) (t : ℕ) → traps_at (trap_time ends) t ≡ true → IsTrapAt ends t
trap_there (Exit at code) t e = absurd cc
trap_there (Trap at kind pc) t e = record { kind = kind; pc = pc; is = ap (λ (n : ℕ). Trap n kind pc) (sym (eqb-true t at e)) }
trap_there (Limit at) t e = absurd cc

-- ---- where a run stands

module _ (q : Query) (job : Job) (at : RunAt) (is : IsJob job) (stands : Stands job at) where
  -- it looks at what traps
  pub looked_at_trap : (look : Look) (old new : DecisionTracking) → traps_at (trap_time job.log.end) at.moment.time ≡ true → look.time ≡ at.moment.time → look.pc ≡ at.moment.state.pc
      → MatchOption look.instr ((i : Instr) → fetch at.moment.state ≡ Fetched i → ⊥) (λ i. fetch at.moment.state ≡ Fetched i)
      → Notes look (looked_at old.rule look) old new → HaveLabels new.labels new.groups → IsTracked q job at.moment.time old → HasDecisions q job new
  looked_at_trap look old new traps time pc there noted sound h =
      let t = at.moment.time in
      let trap = trap_there job.log.end t traps in
      let last : t ≡ steps job.log = sym (ap steps_by trap.is) in
      let state = ap (λ (m : Moment). m.state) stands.here ∙ ap (λ (n : ℕ). (moment_of job n).state) last in
      let seen : moments_seen job.log.end ≡ steps job.log + 1 = ap moments_seen trap.is ∙ ap (λ (n : ℕ). n + 1) last in
      let looks = looks_at_end job at.moment.state look t trap.kind trap.pc is state trap.is (time ∙ last) pc there in
      seen_at_trap q job look old new looks (time ∙ last) seen noted sound (subst (λ (n : ℕ). IsTracked q job n old) last h)

-- ---- a step

-- a tracking that goes on by a step of the run is one of the steps up to where the run stands then
pub step_tracked : (q : Query) (job : Job) (s : StepSeen) (after : RunAt) (pc : ℕ) (old new : DecisionTracking) → IsJob job → IsMadeOf job s after
    → (pc ≡ (moment_of job s.number).state.pc) × IsFollowed q job s.number old → TracksStep pc s old new → IsTracked q job after.moment.time new
step_tracked q job s after pc old new is made seen tracks =
    let time = made.time in
    let within = made.stands.within in
    let below : s.number < steps job.log = omega arith in
    subst (λ (n : ℕ). IsTracked q job n new) (sym made.time)
    (tracks q job (record { is_job = is; below = below; step = made.step; at_pc = seen.0 }) (seen.1.tracked below))
