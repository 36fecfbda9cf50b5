-- Two runs, step by step, and the laws of decisions; and two recordings over inputs that differ at some bytes.
use Rattle.std.proofs.Common.{◌≡◌, ℕ, zero, suc, ◌+◌, ◌<◌, ◌≤◌, Bool, false, cond, List, [], ◌∷◌, map, refl, arith, sym, subst, ◌⊎◌, inl, inr, true, drop, length, get_or, Some, None, ap, ap₂, ◌∙◌, ◌++◌, append-nil, ℤ, take, pos, negsuc, length-take, length-drop, get_or-take, get_or-drop}
use Rattle.std.specs.Prelude.{All, if◌then◌else◌, ◌==◌, nat_le, not, ◌&&◌, min}
use Rattle.std.specs.List.{filter, AllByRecursion}
use Rattle.std.proofs.lemmas.List.Elements.{recursion_from_All, All-from_recursion}
use Rattle.lists.proofs.Lists.{all-parts, all-weaken}
use Rattle.isa.specs.Machine.{State, Outcome, Retired, Called, next, Fetched, wrap, place_of, Trapped, reg, in_window, bytes_at}
use Rattle.log_model.specs.declared.RunEnd.{RunEnd}
use Rattle.log_model.specs.declared.RunEnd.TheVariants.{Exit, Trap, Limit}
use Rattle.log_model.specs.Logs.{Log, steps_by, end_at, steps, IsRecord, IsRefusal, moved_length}
use Rattle.flow_model.specs.declared.Loc.{Loc}
use Rattle.flow_model.specs.declared.SourceByte.{SourceByte}
use Rattle.flow_model.specs.declared.StepSeen.{StepSeen}
use Rattle.flow_model.specs.Origins.{Policy, origins, introduced, byte_at}
use Rattle.replay_model.specs.Run.{Moment, start, advance, moment_after, trace, after_outcome, after_call, step_of}
use Rattle.replay_model.proofs.Track.{on_track_at, advance_plain}
use Rattle.answer_meaning.specs.RunLaws.{IsRun, moment_at, under, byte_received, byte_at_sink, AlikeAt, AlikeElsewhere}
use Rattle.decision_find.specs.Decisions.{decisions, moments_seen, Decision, decision, is_some_byte, decided_at, decided_from, decided}
use Rattle.answer_meaning.specs.DecisionLaws.{NoneDiffers, IsUndecided, EndsAreSame, ContentsAreSame, PathIsSame, ReceivedIsSame, RowsAreSame, AreRuns, NoInfluence}
use Rattle.std.proofs.lemmas.Bool.{cases_lt}
use Rattle.isa.specs.declared.Instr.{Instr}
use Rattle.isa.specs.declared.Instr.TheVariants.{Ecall}
use Rattle.log_model.specs.declared.CallRecord.{CallRecord}
use Rattle.log_model.specs.declared.CallRecord.TheVariants.{Read, Write, Clock, Other}
use Rattle.flow_model.specs.declared.Loc.TheVariants.{Mem}
use Rattle.flow_model.specs.declared.Rule.{Rule}
use Rattle.flow_model.specs.declared.Rule.TheVariants.{Compute, Index}
use Rattle.flow_model.specs.declared.CallSeen.{CallSeen}
use Rattle.flow_model.specs.Flow.{distance}
use Rattle.replay_model.proofs.Offsets.{moment_later}
use Rattle.record_model.specs.States.{IsSound}
use Rattle.answer_meaning.specs.Content.{content, AgreeAt}
use Rattle.answer_meaning.specs.StepLaws.{DeterminedBy, SameStep, bytes_given, answer_by, is_load, on_path, IsDoneBy}
use Rattle.answer_meaning.proofs.Steps.{none_is, some_is, Does, Plain, Calls, does, instruction_step, received_is_there, state_given, compute_determines}
use Rattle.answer_meaning.proofs.Targets.{word_agrees}
use Rattle.answer_meaning.proofs.Runs.{content_after, ReceivesAlike, alike_next, on_track, done_at, sound_at, fits_makes_run, determined_rows}
use Rattle.answer_meaning.proofs.Alike.{window_at, AlikeOutcomes, next_alike, same_fetched, places_alike, IsExitAt, AreAlike, both_answered, done_after, left_after, not_exit, exits_at, SameWindow, read_arguments, write_arguments, kept_length, kept_if}
use Rattle.decision_find.proofs.Answered.{call_at_time, IsCallAt, traps_at, none_left}
use Rattle.isa.specs.declared.Call.{Call}
use Rattle.isa.specs.declared.CallKind.{CallKind}
use Rattle.record_model.specs.Recorded.{EndsWithin, Setting, input_of, part_of, ReadsNext, AllReadNext, clock_values}
use Rattle.decision_find.specs.Decides.{used}
use Rattle.std.proofs.lemmas.Option.{same_Some}
use Rattle.elf_model.specs.Image.{image}
use Rattle.log_model.specs.Moved.{received, received_by}
use Rattle.report_model.specs.Query.{has_source}
use Rattle.report_model.specs.Rows.{Row, rows}
use Rattle.replay_model.specs.Fits.{start_in_image, Fits}
use Rattle.decision_find.specs.Text.{deciding_query}
use Rattle.std.proofs.lemmas.List.{get_or_past, nil_from_length}
use Rattle.isa.specs.Calls.{channel_of, buffer_of, length_of, refusal_of, has_channel, is_of_no_bytes, bad_channel, bad_buffer, not_refused}
use Rattle.log_model.proofs.Moved.{length-received-push}
use Rattle.log_model.proofs.Ends.{end_at-le-steps_by}
use Rattle.replay_model.specs.Comparison.{IsLawful, arguments, arguments_of, allowed, bytes_compared}
use Rattle.replay_model.proofs.Agreement.{first_agrees, rest_agrees}
use Rattle.answer_meaning.specs.Environments.{BytesAlike, SameAnswers}
use Rattle.answer_meaning.specs.Recordings.{AreSettingsAlike, AreAnswersAlike, RecordingsAreAlike}
use Rattle.isa.specs.declared.CallKind.TheVariants as kind
use Rattle.replay_model.specs.Comparison.{result as result_compared}

pub seen_within : (end : RunEnd) → moments_seen end ≤ end_at end + 1
seen_within (Exit at code) = omega arith
seen_within other = omega arith

pub steps_seen : (end : RunEnd) → steps_by end ≤ moments_seen end
steps_seen (Exit at code) = omega arith
steps_seen other = omega arith

module _ (differs : SourceByte → Bool) where
  -- no source byte among these differs, by recursion
  abbrev pub Clear : List SourceByte → Type 0
  Clear bs = AllByRecursion (λ x. differs x ≡ false) bs

  -- no location that decides at a moment comes from what differs
  abbrev pub Undecided : Policy → List StepSeen → ℕ → State → Type 0
  Undecided policy trace t s = AllByRecursion (λ l. Clear (origins policy trace t l)) (decisions policy.rule s)

  abbrev Passes : Decision → Type 0
  Passes d = NoneDiffers differs d.sources

  module _ (policy : Policy) (trace : List StepSeen) where
    each_listed : (m : Moment) (ls : List Loc) → AllByRecursion Passes (filter (λ d. is_some_byte d.sources) (map (decision policy trace m) ls)) → AllByRecursion (λ l. Clear (origins policy trace m.time l)) ls
    each_listed m [] h = tt
    each_listed m (l ∷ ls) h = by (each_listed m ls) (origins policy trace m.time l) refl h
      where
        rest : List Decision
        rest = filter (λ d. is_some_byte d.sources) (map (decision policy trace m) ls)

        by : (AllByRecursion Passes rest → AllByRecursion (λ l. Clear (origins policy trace m.time l)) ls) → (bs : List SourceByte) → origins policy trace m.time l ≡ bs
            → AllByRecursion Passes (cond (is_some_byte bs) (decision policy trace m l ∷ rest) rest) → Clear (origins policy trace m.time l) × AllByRecursion (λ l. Clear (origins policy trace m.time l)) ls
        by ih [] e h = (subst Clear (sym e) tt, ih h)
        by ih (b ∷ bs) e h = (recursion_from_All (λ x. differs x ≡ false) (origins policy trace m.time l) h.0, ih h.1)

    listed_from : (n k : ℕ) (m : Moment) → k < n → AllByRecursion Passes (decided_from policy trace n m) → Undecided policy trace (moment_after k m).time (moment_after k m).state
    listed_from zero k m g h = absurd (omega arith)
    listed_from (suc n) zero m g h = each_listed m (decisions policy.rule m.state) (all-parts Passes (decided_at policy trace m) (decided_from policy trace n (advance m)) h).0
    listed_from (suc n) (suc k) m g h = listed_from n k (advance m) (omega arith) (all-parts Passes (decided_at policy trace m) (decided_from policy trace n (advance m)) h).1

  pub undecided : (policy : Policy) (s : State) (log : Log) → IsRun log s → All Passes (decided policy s log) → (k : ℕ) → k < moments_seen log.end → Undecided policy (trace s log) k (moment_at s log k).state
  undecided policy s log run h k g =
      let within = seen_within log.end in
      let time = (on_track_at log s k run.form run.agrees (omega arith)).time in
      subst (λ (t : ℕ). Undecided policy (trace s log) t (moment_at s log k).state) time
      (listed_from policy (trace s log) (moments_seen log.end) k (start s log) g (recursion_from_All Passes (decided policy s log) h))

-- ---- steps on one path

on_same : (rule : Rule) (j k : ℕ) (i : Instr) (p q : ℕ) → j ≡ k → (p ≡ q) ⊎ ((is_load i ≡ true) × (rule ≡ Index))
    → on_path rule (record { number = j; instr = i; place = p; call = None }) ≡ on_path rule (record { number = k; instr = i; place = q; call = None })
on_same rule j k i p q e (inl f) = ap₂ (λ (x y : ℕ). on_path rule (record { number = x; instr = i; place = y; call = None })) e f
on_same Index j k i p q e (inr f) =
    ap (λ (x : ℕ). on_path Index (record { number = x; instr = i; place = p; call = None })) e
    ∙ ap (λ (b : Bool). record { number = k; instr = i; place = if b then 0 else p; call = None }) f.0
    ∙ sym (ap (λ (b : Bool). record { number = k; instr = i; place = if b then 0 else q; call = None }) f.0)
on_same other j k i p q e (inr f) = let index = f.1 in cc

given_pc : (s : State) (left : List CallRecord) → (state_given s left).pc ≡ wrap (s.pc + 4)
given_pc s (Read at args result bytes ∷ rs) = refl
given_pc s left = refl

pub record Moved (m n : Moment) (left : List CallRecord) : Type 0 where
  pub done : n.done ≡ done_after m.done left
  pub left_is : n.left ≡ left_after left

pub moved_by : (m : Moment) (left : List CallRecord) → m.left ≡ left → Moved m (after_call m left) left
moved_by m [] e = record { done = refl; left_is = e }
moved_by m (r ∷ rs) e = record { done = refl; left_is = ap (λ (xs : List CallRecord). drop 1 xs) e }

-- ---- the two runs

module _ (rule : Rule) (law : DeterminedBy rule) (introduces differs : SourceByte → Bool) (s : State) (a b : Log) (u : IsUndecided rule introduces differs s a b) where
  abbrev first_at : ℕ → Moment
  first_at t = moment_at s a t

  abbrev second_at : ℕ → Moment
  second_at t = moment_at s b t

  abbrev policy : Policy
  policy = under rule introduces

  abbrev origins_at : ℕ → Loc → List SourceByte
  origins_at t l = origins policy (trace s a) t l

  -- what they have in common after t steps
  pub record Together (t : ℕ) (m n : Moment) : Type 0 where
    pub pc : m.state.pc ≡ n.state.pc
    pub alike : (l : Loc) → Clear differs (origins_at t l) → content m.state l ≡ content n.state l
    pub records : AreAlike differs m.done m.left n.done n.left

  -- they agree at what decides
  pub decides_agree : (t : ℕ) → t < moments_seen a.end → Together t (first_at t) (second_at t) → AgreeAt (first_at t).state (second_at t).state (decisions rule (first_at t).state)
  decides_agree t h both =
      all-weaken (λ l. Clear differs (origins_at t l)) (λ l. content (first_at t).state l ≡ content (second_at t).state l) both.alike
      (decisions rule (first_at t).state) (undecided differs policy s a u.first u.none t h)

  abbrev pub OutcomesAlike : ℕ → Type 0
  OutcomesAlike t = AlikeOutcomes rule (first_at t).state (second_at t).state (next (first_at t).state) (next (second_at t).state)

  base_same : (t : ℕ) → t ≤ steps a → t ≤ steps b → (first_at t).state.base ≡ (second_at t).state.base
  base_same t h g = (window_at a s t u.first h).base ∙ sym (window_at b s t u.second g).base

  size_same : (t : ℕ) → t ≤ steps a → t ≤ steps b → length (first_at t).state.memory ≡ length (second_at t).state.memory
  size_same t h g = (window_at a s t u.first h).size ∙ sym (window_at b s t u.second g).size

  -- so their next steps are alike, also where one is a trap
  pub outcomes_alike : (t : ℕ) → t ≤ steps a → t ≤ steps b → t < moments_seen a.end → Together t (first_at t) (second_at t) → OutcomesAlike t
  outcomes_alike t h g k both =
      next_alike (sound_at a s t u.first h) (sound_at b s t u.second g) both.pc (base_same t h g) (size_same t h g) rule (decides_agree t k both)

  -- ---- one step

  record Stepped (t : ℕ) : Type 0 where
    same : SameStep rule (first_at t) (second_at t)
    pc : (advance (first_at t)).state.pc ≡ (advance (second_at t)).state.pc
    records : AreAlike differs (advance (first_at t)).done (advance (first_at t)).left (advance (second_at t)).done (advance (second_at t)).left
    given : (call : CallSeen) → (step_of (first_at t)).call ≡ Some call → (i : ℕ) → i < call.length → differs (record { channel = call.channel; offset = call.offset + i }) ≡ false
        → get_or (bytes_given (first_at t).left) i 0 ≡ get_or (bytes_given (second_at t).left) i 0

  stepped : (t : ℕ) → t < steps a → t < steps b → Together t (first_at t) (second_at t) → Stepped t
  stepped t h g both = by (does a.inputs m (done_at a s t u.first h)) (does b.inputs n (done_at b s t u.second g))
    where
      m : Moment
      m = first_at t

      n : Moment
      n = second_at t

      ss : IsSound m.state
      ss = sound_at a s t u.first (omega arith)

      st : IsSound n.state
      st = sound_at b s t u.second (omega arith)

      time : m.time ≡ n.time
      time = (on_track a s t u.first h).time ∙ sym (on_track b s t u.second g).time

      looked : t < moments_seen a.end
      looked = let x = steps_seen a.end in omega arith

      outcomes : OutcomesAlike t
      outcomes = outcomes_alike t (omega arith) (omega arith) looked both

      known : (o p : Outcome) → next m.state ≡ o → next n.state ≡ p → AlikeOutcomes rule m.state n.state o p
      known o p e f = subst (λ (x : Outcome). AlikeOutcomes rule m.state n.state x p) e (subst (λ (x : Outcome). AlikeOutcomes rule m.state n.state (next m.state) x) f outcomes)

      one_instr : (i j : Instr) → Fetched i ≡ Fetched j → i ≡ j
      one_instr i j e = cc

      by : Does a.inputs m → Does b.inputs n → Stepped t
      by (Plain v x e se sa) (Plain w y f te ta) =
          let agree = decides_agree t looked both in
          let fetched = same_fetched ss st both.pc (base_same t (omega arith) (omega arith)) (size_same t (omega arith) (omega arith)) rule agree in
          let instr : x.instr ≡ y.instr = one_instr x.instr y.instr (sym x.is_fetched ∙ fetched ∙ y.is_fetched) in
          let places = places_alike ss st both.pc (base_same t (omega arith) (omega arith)) (size_same t (omega arith) (omega arith)) rule x.instr x.is_fetched agree in
          record {
            same = record {
              pc = both.pc;
              step = ap (on_path rule) se ∙ on_same rule m.time n.time x.instr (place_of m.state x.instr) (place_of n.state x.instr) time places
                  ∙ ap (λ (i : Instr). on_path rule (instruction_step n i)) instr ∙ sym (ap (on_path rule) te);
              answer = ap (λ (o : Outcome). answer_by o m.left) e ∙ sym (ap (λ (o : Outcome). answer_by o n.left) f);
            };
            pc = ap (λ (z : State). z.pc) sa ∙ known (Retired v) (Retired w) e f ∙ sym (ap (λ (z : State). z.pc) ta);
            records = rw (advance_plain m v e, advance_plain n w f) (record { received_as_much = both.records.received_as_much; written_as_much = both.records.written_as_much; bytes = both.records.bytes; answers = both.records.answers });
            given = λ call k. none_is (sym (ap (λ (z : StepSeen). z.call) se) ∙ k);
          }
      by (Plain v x e se sa) (Calls d f k te ta) = absurd (known (Retired v) (Called d) e f)
      by (Calls c e k se sa) (Plain w y f te ta) = absurd (known (Called c) (Retired w) e f)
      by (Calls c e k se sa) (Calls d f l te ta) =
          let alike = known (Called c) (Called d) e f in
          let answered = both_answered differs a b t m n ss st c d alike.0 alike.2 alike.1 m.left n.left both.records (call_at_time a s t u.first.form u.first.agrees h c e) (call_at_time b s t u.second.form u.second.agrees g d f) in
          let moved_m = moved_by m m.left refl in
          let moved_n = moved_by n n.left refl in
          let after_m : advance m ≡ after_call m m.left = ap (after_outcome m) e in
          let after_n : advance n ≡ after_call n n.left = ap (after_outcome n) f in
          record {
            same = record {
              pc = both.pc;
              step = ap (on_path rule) se ∙ ap₂ (λ (j : ℕ) (z : CallSeen). on_path rule (record { number = j; instr = Ecall; place = 0; call = Some z })) time answered.alike.seen ∙ sym (ap (on_path rule) te);
              answer = ap (λ (o : Outcome). answer_by o m.left) e ∙ answered.alike.words ∙ sym (ap (λ (o : Outcome). answer_by o n.left) f);
            };
            pc = ap (λ (z : State). z.pc) sa ∙ given_pc m.state m.left ∙ ap (λ (x : ℕ). wrap (x + 4)) both.pc ∙ sym (given_pc n.state n.left) ∙ sym (ap (λ (z : State). z.pc) ta);
            records = rw (after_m, after_n, moved_m.done, moved_m.left_is, moved_n.done, moved_n.left_is) answered.records;
            given = λ call k.
                subst (λ (z : CallSeen). (i : ℕ) → i < z.length → differs (record { channel = z.channel; offset = z.offset + i }) ≡ false → get_or (bytes_given m.left) i 0 ≡ get_or (bytes_given n.left) i 0)
                (some_is (sym (ap (λ (z : StepSeen). z.call) se) ∙ k)) answered.alike.given;
          }

  introduced_same : (x : SourceByte) → Clear differs (introduced policy x) → differs x ≡ false
  introduced_same x h = by (introduces x) refl h
    where
      by : (c : Bool) → introduces x ≡ c → Clear differs (cond c (x ∷ []) []) → differs x ≡ false
      by true e h = h.0
      by false e h = u.chosen x e

  received_alike : (t : ℕ) → t < steps a → t < steps b → Stepped t → ReceivesAlike rule a b s introduces (λ x. differs x ≡ false) t
  received_alike t h g step call q x y low there clear =
      let first = received_is_there a.inputs (first_at t) call q (sound_at a s t u.first (omega arith)) (done_at a s t u.first h) low x there in
      let second = received_is_there b.inputs (second_at t) call q (sound_at b s t u.second (omega arith)) (done_at b s t u.second g) low y there in
      content_after s a t (Mem q) ∙ first.content_is ∙ step.given call x (distance call.place q) first.inside (introduced_same (byte_at call (Mem q)) clear) ∙ sym second.content_is ∙ sym (content_after s b t (Mem q))

  -- ---- all steps

  pub together_at : (t : ℕ) → t ≤ steps a → t ≤ steps b → Together t (first_at t) (second_at t)
  together_at zero h g = record {
    pc = refl;
    alike = λ l clear. refl;
    records = record { received_as_much = λ c. refl; written_as_much = λ c. refl; bytes = λ c o e. refl; answers = u.answers };
  }
  together_at (suc t) h g =
      let before = together_at t (omega arith) (omega arith) in
      let step = stepped t (omega arith) (omega arith) before in
      record {
        pc = ap (λ (m : Moment). m.state.pc) (moment_later t (start s a)) ∙ step.pc ∙ sym (ap (λ (m : Moment). m.state.pc) (moment_later t (start s b)));
        alike = λ l clear. alike_next rule a b s introduces (λ x. differs x ≡ false) law u.first u.second t l (omega arith) (omega arith) step.same (received_alike t (omega arith) (omega arith) step) before.alike clear;
        records = rw (moment_later t (start s a), moment_later t (start s b)) step.records;
      }

  pub same_steps : (t : ℕ) → t < steps a → t < steps b → SameStep rule (first_at t) (second_at t)
  same_steps t h g = (stepped t h g (together_at t (omega arith) (omega arith))).same

-- a call of a run that is the exit ends it
exit_ends : (log : Log) (s : State) (t : ℕ) → IsRun log s → t < steps log → (call : Call) → next (moment_at s log t).state ≡ Called call → call.kind ≡ kind.Exit → (steps log ≡ suc t) × (end_at log.end ≡ t)
exit_ends log s t run h call e k = by (moment_at s log t).left (call_at_time log s t run.form run.agrees h call e)
  where
    by : (left : List CallRecord) → IsCallAt log t (moment_at s log t).state call left → (steps log ≡ suc t) × (end_at log.end ≡ t)
    by [] x = (x.1, x.2)
    by (r ∷ rs) x = not_exit r (sym x.3 ∙ k)

-- two outcomes are of one kind
abbrev SameKind : Outcome → Outcome → Type 0
SameKind (Retired x) (Retired y) = Unit {0}
SameKind (Called c) (Called d) = c.kind ≡ d.kind
SameKind (Trapped j) (Trapped k) = j ≡ k
SameKind o p = ⊥

same_kind : (x y : State) (o p : Outcome) → AlikeOutcomes Compute x y o p → SameKind o p
same_kind x y (Retired u) (Retired v) h = tt
same_kind x y (Called c) (Called d) h = h.0
same_kind x y (Trapped j) (Trapped k) h = h
same_kind x y (Retired u) (Trapped k) h = cc
same_kind x y (Trapped k) (Retired u) h = cc
same_kind x y o p h = absurd h

kind_turned : (o p : Outcome) → SameKind o p → SameKind p o
kind_turned (Retired x) (Retired y) h = tt
kind_turned (Called c) (Called d) h = sym h
kind_turned (Trapped j) (Trapped k) h = sym h
kind_turned o p h = absurd h

-- the first of two runs whose outcomes are of one kind doesn't end by itself before the second
module _ (s : State) (p q : Log) (rp : IsRun p s) (rq : IsRun q s) (same : (t : ℕ) → t ≤ steps p → t < steps q → t < moments_seen p.end → SameKind (next (moment_at s p t).state) (next (moment_at s q t).state)) where
  known : (t : ℕ) (o : Outcome) → next (moment_at s p t).state ≡ o → t ≤ steps p → t < steps q → t < moments_seen p.end → SameKind o (next (moment_at s q t).state)
  known t o e h g k = subst (λ (x : Outcome). SameKind x (next (moment_at s q t).state)) e (same t h g k)

  exits_too : (at code : ℕ) → p.end ≡ Exit at code → at < steps q → (steps q ≡ suc at) × (end_at q.end ≡ at)
  exits_too at code e h =
      let all : steps p ≡ at + 1 = ap steps_by e in
      let seen : moments_seen p.end ≡ at + 1 = ap moments_seen e in
      by (next (moment_at s q at).state) refl (known at (Called exit.call) exit.calls (omega arith) h (omega arith))
    where
      exit : IsExitAt (moment_at s p at).state code
      exit = exits_at p s at code rp e

      by : (o : Outcome) → next (moment_at s q at).state ≡ o → SameKind (Called exit.call) o → (steps q ≡ suc at) × (end_at q.end ≡ at)
      by (Called d) f k = exit_ends q s at rq h d f (sym k ∙ exit.is_exit)
      by o f k = absurd k

  not_longer : (n : ℕ) (end : RunEnd) → p.end ≡ end → EndsWithin n end → steps q ≤ n → steps p < steps q → ⊥
  not_longer n (Exit at code) e x y h =
      let all : steps p ≡ at + 1 = ap steps_by e in
      omega (arith, (exits_too at code e (omega arith)).0)
  not_longer n (Trap at k pc) e x y h =
      let all : steps p ≡ at = ap steps_by e in
      let seen : moments_seen p.end ≡ at + 1 = ap moments_seen e in
      by (next (moment_at s q at).state) (known at (Trapped k) (traps_at p s at k pc rp.form rp.agrees e).traps (omega arith) (omega arith) (omega arith)) (done_at q s at rq (omega arith))
    where
      by : (o : Outcome) → SameKind (Trapped k) o → IsDoneBy (moment_at s q at).state q.inputs (moment_at s q at).left o → ⊥
      by (Trapped j) z d = d
      by o z d = z
  not_longer n (Limit at) e x y h = let all : steps p ≡ at = ap steps_by e in omega arith

-- the steps of a run that ends within n steps
bounded : (n : ℕ) (end : RunEnd) → EndsWithin n end → steps_by end ≤ n
bounded n (Exit at code) h = omega arith
bounded n other h = omega arith

module _ (introduces differs : SourceByte → Bool) (s : State) (a b : Log) (u : IsUndecided Compute introduces differs s a b) where
  outcomes : (t : ℕ) → t ≤ steps a → t ≤ steps b → t < moments_seen a.end → AlikeOutcomes Compute (moment_at s a t).state (moment_at s b t).state (next (moment_at s a t).state) (next (moment_at s b t).state)
  outcomes t h g k = outcomes_alike Compute compute_determines introduces differs s a b u t h g k (together_at Compute compute_determines introduces differs s a b u t h g)

  outcomes_are : (t : ℕ) (o p : Outcome) → next (moment_at s a t).state ≡ o → next (moment_at s b t).state ≡ p → t ≤ steps a → t ≤ steps b → t < moments_seen a.end → AlikeOutcomes Compute (moment_at s a t).state (moment_at s b t).state o p
  outcomes_are t o p e f h g k =
      subst (λ (x : Outcome). AlikeOutcomes Compute (moment_at s a t).state (moment_at s b t).state o x) f
      (subst (λ (x : Outcome). AlikeOutcomes Compute (moment_at s a t).state (moment_at s b t).state x (next (moment_at s b t).state)) e (outcomes t h g k))

  of_one_kind : (t : ℕ) → t ≤ steps a → t ≤ steps b → t < moments_seen a.end → SameKind (next (moment_at s a t).state) (next (moment_at s b t).state)
  of_one_kind t h g k = same_kind (moment_at s a t).state (moment_at s b t).state _ _ (outcomes t h g k)

  forwards : (t : ℕ) → t ≤ steps a → t < steps b → t < moments_seen a.end → SameKind (next (moment_at s a t).state) (next (moment_at s b t).state)
  forwards t h g k = of_one_kind t h (omega arith) k

  backwards : (t : ℕ) → t ≤ steps b → t < steps a → t < moments_seen b.end → SameKind (next (moment_at s b t).state) (next (moment_at s a t).state)
  backwards t h g k = kind_turned _ _ (of_one_kind t (omega arith) h (let z = steps_seen a.end in omega arith))

  pub as_long : (n : ℕ) → EndsWithin n a.end → EndsWithin n b.end → steps a ≡ steps b
  as_long n x y = by (cases_lt (steps a) (steps b)) (cases_lt (steps b) (steps a))
    where
      by : (steps a < steps b) ⊎ (steps b ≤ steps a) → (steps b < steps a) ⊎ (steps a ≤ steps b) → steps a ≡ steps b
      by (inl h) g = absurd (not_longer s a b u.first u.second forwards n a.end refl x (bounded n b.end y) h)
      by (inr h) (inl g) = absurd (not_longer s b a u.second u.first backwards n b.end refl y (bounded n a.end x) g)
      by (inr h) (inr g) = omega arith

  -- ---- ends

  one_code : (at code code1 : ℕ) → a.end ≡ Exit at code → b.end ≡ Exit at code1 → code ≡ code1
  one_code at code code1 e f =
      let all : steps a ≡ at + 1 = ap steps_by e in
      let others : steps b ≡ at + 1 = ap steps_by f in
      let seen : moments_seen a.end ≡ at + 1 = ap moments_seen e in
      let first = exits_at a s at code u.first e in
      let second = exits_at b s at code1 u.second f in
      let alike = outcomes_are at (Called first.call) (Called second.call) first.calls second.calls (omega arith) (omega arith) (omega arith) in
      let agree = subst (λ (k : CallKind). AgreeAt (moment_at s a at).state (moment_at s b at).state (used k)) first.is_exit alike.2 in
      first.code_is ∙ word_agrees (sound_at a s at u.first (omega arith)) (sound_at b s at u.second (omega arith)) 10 agree ∙ sym second.code_is

  one_trap : (at k pc k1 pc1 : ℕ) → a.end ≡ Trap at k pc → b.end ≡ Trap at k1 pc1 → Trap at k pc ≡ Trap at k1 pc1
  one_trap at k pc k1 pc1 e f =
      let all : steps a ≡ at = ap steps_by e in
      let others : steps b ≡ at = ap steps_by f in
      let seen : moments_seen a.end ≡ at + 1 = ap moments_seen e in
      let first = traps_at a s at k pc u.first.form u.first.agrees e in
      let second = traps_at b s at k1 pc1 u.second.form u.second.agrees f in
      let kinds = outcomes_are at (Trapped k) (Trapped k1) first.traps second.traps (omega arith) (omega arith) (omega arith) in
      ap₂ (Trap at) kinds (first.pc_is ∙ (together_at Compute compute_determines introduces differs s a b u at (omega arith) (omega arith)).pc ∙ sym second.pc_is)

  one_end : (n : ℕ) (e f : RunEnd) → a.end ≡ e → b.end ≡ f → EndsWithin n e → EndsWithin n f → steps a ≡ steps b → e ≡ f
  one_end n (Exit at code) (Exit at1 code1) e f x y h =
      let same : at ≡ at1 = omega (arith, ap steps_by e, ap steps_by f) in
      ap₂ Exit same (one_code at code code1 e (f ∙ ap (λ (t : ℕ). Exit t code1) (sym same)))
  one_end n (Trap at k pc) (Trap at1 k1 pc1) e f x y h =
      let same : at ≡ at1 = omega (arith, ap steps_by e, ap steps_by f) in
      one_trap at k pc k1 pc1 e (f ∙ ap (λ (t : ℕ). Trap t k1 pc1) (sym same)) ∙ ap (λ (t : ℕ). Trap t k1 pc1) same
  one_end n (Limit at) (Limit at1) e f x y h = ap Limit (omega (arith, ap steps_by e, ap steps_by f))
  one_end n (Exit at code) other e f x y h =
      let all : steps a ≡ at + 1 = ap steps_by e in
      absurd (omega (arith, ap steps_by f, ap end_at f, (exits_too s a b u.first u.second forwards at code e (omega arith)).1))
  one_end n other (Exit at code) e f x y h =
      let all : steps b ≡ at + 1 = ap steps_by f in
      absurd (omega (arith, ap steps_by e, ap end_at e, (exits_too s b a u.second u.first backwards at code f (omega arith)).1))
  one_end n first second e f x y h = absurd (omega (arith, ap steps_by e, ap steps_by f))

pub ends_are_same : EndsAreSame
ends_are_same introduces differs s a b u n x y = one_end introduces differs s a b u n a.end b.end refl refl x y (as_long introduces differs s a b u n x y)

-- ---- the laws

pub contents_are_same : (rule : Rule) → DeterminedBy rule → ContentsAreSame rule
contents_are_same rule law introduces differs s a b u t l h g clear =
    (together_at rule law introduces differs s a b u t h g).alike l (recursion_from_All (λ x. differs x ≡ false) (origins (under rule introduces) (trace s a) t l) clear)

pub path_is_same : (rule : Rule) → DeterminedBy rule → PathIsSame rule
path_is_same rule law introduces differs s a b u e = record { as_long = e; each = λ k h. same_steps rule law introduces differs s a b u k h (omega arith) }

-- ---- all records are done at the end

done_at_end : (log : Log) (s : State) → IsRun log s → (moment_at s log (end_at log.end)).done ≡ log.records
done_at_end log s run =
    let m = moment_at s log (end_at log.end) in
    let there = on_track_at log s (end_at log.end) run.form run.agrees (omega arith) in
    let time = there.time in
    sym (append-nil m.done) ∙ ap (λ (left : List CallRecord). m.done ++ left) (sym (none_left log m there.on (omega arith))) ∙ there.on.all

done_by : (log : Log) (s : State) (end : RunEnd) → IsRun log s → log.end ≡ end → (moment_at s log (steps_by end)).done ≡ log.records
done_by log s (Exit at code) run e =
    let m = moment_at s log at in
    let exit = exits_at log s at code run e in
    let there = on_track_at log s at run.form run.agrees (let last : end_at log.end ≡ at = ap end_at e in omega arith) in
    let time = there.time in
    let none : m.left ≡ [] = none_left log m there.on (let last : end_at log.end ≡ at = ap end_at e in omega arith) in
    let later : at + 1 ≡ suc at = omega arith in
    ap (λ (t : ℕ). (moment_at s log t).done) later
    ∙ ap (λ (x : Moment). x.done) (moment_later at (start s log))
    ∙ ap (λ (x : Moment). x.done) (ap (after_outcome m) exit.calls)
    ∙ (moved_by m m.left refl).done
    ∙ ap (done_after m.done) none
    ∙ ap (λ (t : RunEnd). (moment_at s log (end_at t)).done) (sym e) ∙ done_at_end log s run
done_by log s other run e = ap (λ (t : RunEnd). (moment_at s log (end_at t)).done) (sym e) ∙ done_at_end log s run

all_done : (log : Log) (s : State) → IsRun log s → (moment_at s log (steps log)).done ≡ log.records
all_done log s run = done_by log s log.end run refl

pub received_is_same : (rule : Rule) → DeterminedBy rule → ReceivedIsSame rule
received_is_same rule law introduces differs s a b u e x h =
    let both = together_at rule law introduces differs s a b u (steps a) (omega arith) (omega arith) in
    ap (λ (rs : List CallRecord). get_or (received x.channel rs) x.offset 0) (sym (all_done a s u.first))
    ∙ both.records.bytes x.channel x.offset h
    ∙ ap (λ (t : ℕ). get_or (received x.channel (moment_at s b t).done) x.offset 0) e
    ∙ ap (λ (rs : List CallRecord). get_or (received x.channel rs) x.offset 0) (all_done b s u.second)

-- ---- rows

pub rows_are_same : (rule : Rule) → DeterminedBy rule → RowsAreSame rule
rows_are_same rule law q differs s a b is u e =
    let same = received_is_same rule law (has_source q) differs s a b u e in
    let path = path_is_same rule law (has_source q) differs s a b u e in
    let elsewhere : AlikeElsewhere (has_source q) a b = λ x h. same x (u.chosen x h) in
    let all = determined_rows rule law a b s u.first u.second path q is elsewhere in
    All-from_recursion Q (rows q (trace s a)) (all-weaken P Q (λ r h clear. h (alike same r.sources clear)) (rows q (trace s a)) (recursion_from_All P (rows q (trace s a)) all))
  where
    P : Row → Type 0
    P r = AlikeAt a b r.sources → byte_at_sink s a r.sink ≡ byte_at_sink s b r.sink

    Q : Row → Type 0
    Q r = NoneDiffers differs r.sources → byte_at_sink s a r.sink ≡ byte_at_sink s b r.sink

    alike : ((x : SourceByte) → differs x ≡ false → byte_received a x ≡ byte_received b x) → (bs : List SourceByte) → NoneDiffers differs bs → AlikeAt a b bs
    alike same bs h = All-from_recursion (λ x. byte_received a x ≡ byte_received b x) bs
        (all-weaken (λ x. differs x ≡ false) (λ x. byte_received a x ≡ byte_received b x) same bs (recursion_from_All (λ x. differs x ≡ false) bs h))

-- ---- two runs of one program

pub begins_alike : (program : List ℕ) (a b : Log) (runs : AreRuns program a b) → runs.fits_too.start ≡ runs.fits.start
begins_alike program a b runs =
    same_Some runs.fits_too.start runs.fits.start (sym runs.fits_too.begins ∙ ap (λ (n : ℕ). start_in_image (image program) n) (sym runs.pages) ∙ runs.fits.begins)

pub no_influence : NoInfluence
no_influence program a b runs q differs is chosen none answers n x y =
    let s = runs.fits.start in
    let p = deciding_query q in
    let second : IsRun b s = subst (IsRun b) (begins_alike program a b runs) (fits_makes_run program b runs.bytes runs.second runs.fits_too) in
    let listed : All (λ d. NoneDiffers differs d.sources) (decided (under Compute (has_source p)) s a) = subst (λ (r : Rule). All (λ d. NoneDiffers differs d.sources) (decided (under r (has_source p)) s a)) is none in
    let u : IsUndecided Compute (has_source p) differs s a b = record { first = fits_makes_run program a runs.bytes runs.first runs.fits; second = second; chosen = chosen; none = listed; answers = answers } in
    let long = as_long (has_source p) differs s a b u n x y in
    record {
      path = path_is_same Compute compute_determines (has_source p) differs s a b u long;
      end = ends_are_same (has_source p) differs s a b u n x y;
      rows_are = rows_are_same Compute compute_determines p differs s a b is u long;
    }

-- ---- each record of a run was lawful, in a state with the window of the beginning

record WasLawful (inputs : ℕ) (s : State) (r : CallRecord) : Type 0 where
  form : IsRecord r
  state : State
  window : SameWindow s state
  lawful : IsLawful state inputs r

abbrev AreLawful : ℕ → State → List CallRecord → Type 0
AreLawful inputs s rs = AllByRecursion (WasLawful inputs s) rs

lawful_left : (log : Log) (s : State) → IsRun log s → (n t : ℕ) → t + n ≡ end_at log.end → AreLawful log.inputs s (moment_at s log t).left
lawful_left log s run zero t e =
    let there = on_track_at log s t run.form run.agrees (omega arith) in
    let time = there.time in
    subst (AreLawful log.inputs s) (sym (none_left log (moment_at s log t) there.on (omega arith))) tt
lawful_left log s run (suc n) t e = by (lawful_left log s run n (suc t) (omega arith)) (does log.inputs m (done_at log s t run (let x = end_at-le-steps_by log.end in omega arith)))
  where
    m : Moment
    m = moment_at s log t

    calls : (c : Call) (left : List CallRecord) → IsCallAt log t m.state c left → AreLawful log.inputs s (left_after left) → AreLawful log.inputs s left
    calls c [] x h = tt
    calls c (r ∷ rs) x h = (record { form = x.1; state = m.state; window = window_at log s t run (let y = end_at-le-steps_by log.end in omega arith); lawful = x.2 }, h)

    by : AreLawful log.inputs s (moment_at s log (suc t)).left → Does log.inputs m → AreLawful log.inputs s m.left
    by ih (Plain v x f se sa) = subst (AreLawful log.inputs s) (ap (λ (z : Moment). z.left) (moment_later t (start s log)) ∙ ap (λ (z : Moment). z.left) (advance_plain m v f)) ih
    by ih (Calls c f g se sa) =
        calls c m.left (call_at_time log s t run.form run.agrees (let y = end_at-le-steps_by log.end in omega arith) c f)
        (subst (AreLawful log.inputs s) (ap (λ (z : Moment). z.left) (moment_later t (start s log)) ∙ ap (λ (z : Moment). z.left) (ap (after_outcome m) f) ∙ (moved_by m m.left refl).left_is) ih)

all_lawful : (log : Log) (s : State) → IsRun log s → AreLawful log.inputs s log.records
all_lawful log s run = lawful_left log s run (end_at log.end) 0 (omega arith)

-- ---- what is refused depends on the window and the arguments

one_window : (s x y : State) (a n : ℕ) → SameWindow s x → SameWindow s y → in_window x a n ≡ in_window y a n
one_window s x y a n h g = ap₂ (λ (b l : ℕ). nat_le b a && nat_le (a + n) (b + l)) (h.base ∙ sym g.base) (h.size ∙ sym g.size)

one_refusal : (s x y : State) (c d : ℕ) (args args1 : List ℕ) → SameWindow s x → SameWindow s y → c ≡ d → args ≡ args1 → refusal_of x c args ≡ refusal_of y d args1
one_refusal s x y c d args args1 h g e f =
    ap (λ (held : Bool). if not (has_channel c args) then bad_channel else if is_of_no_bytes args then not_refused else if held then not_refused else bad_buffer) (one_window s x y (buffer_of args) (length_of args) h g)
    ∙ ap₂ (λ (k : ℕ) (xs : List ℕ). refusal_of y k xs) e f

-- ---- reads

abbrev ReadIs : ℤ → ℤ → List ℕ → List ℕ → Type 0
ReadIs (negsuc n) result bytes part = (result ≡ negsuc n) × (bytes ≡ [])
ReadIs (pos n) result bytes part = (result ≡ pos (length part)) × (bytes ≡ part)

read_is : (inputs : List (List ℕ)) (piece : ℕ) (before : List CallRecord) (refused : ℤ) (at : ℕ) (args : List ℕ) (result : ℤ) (bytes : List ℕ) → result ≡ allowed refused result 0 → length bytes ≡ moved_length result
    → ReadsNext inputs piece before (Read at args result bytes) → ReadIs refused result bytes (part_of inputs piece (length (received (channel_of args) before)) args)
read_is inputs piece before (negsuc n) at args result bytes e w x = (e, nil_from_length bytes (w ∙ ap moved_length e))
read_is inputs piece before (pos n) at args (pos k) bytes e w x = (ap pos (sym w ∙ ap length x), x)
read_is inputs piece before (pos n) at args (negsuc k) bytes e w x = cc

-- parts of alike inputs are alike
part_length : (k o : ℕ) (xs ys : List ℕ) → length xs ≡ length ys → length (take k (drop o xs)) ≡ length (take k (drop o ys))
part_length k o xs ys e = omega (arith, length-take k (drop o xs), length-take k (drop o ys), length-drop o xs, length-drop o ys)

part_bytes : (k o i : ℕ) (xs ys : List ℕ) → get_or xs (o + i) 0 ≡ get_or ys (o + i) 0 → get_or (take k (drop o xs)) i 0 ≡ get_or (take k (drop o ys)) i 0
part_bytes k o i xs ys e = by (cases_lt i k)
  where
    by : (i < k) ⊎ (k ≤ i) → get_or (take k (drop o xs)) i 0 ≡ get_or (take k (drop o ys)) i 0
    by (inl h) = get_or-take k (drop o xs) i 0 h ∙ get_or-drop o xs i 0 ∙ e ∙ sym (get_or-drop o ys i 0) ∙ sym (get_or-take k (drop o ys) i 0 h)
    by (inr h) = get_or_past (take k (drop o xs)) i 0 (omega (arith, length-take k (drop o xs))) ∙ sym (get_or_past (take k (drop o ys)) i 0 (omega (arith, length-take k (drop o ys))))

abbrev AsMuch : List CallRecord → List CallRecord → Type 0
AsMuch before others = (c : ℕ) → length (received c before) ≡ length (received c others)

as_much_after : (before others : List CallRecord) (r q : CallRecord) → AsMuch before others → ((c : ℕ) → length (received_by c r) ≡ length (received_by c q)) → AsMuch (before ++ r ∷ []) (others ++ q ∷ [])
as_much_after before others r q h g c = length-received-push c before r ∙ ap₂ (λ (x y : ℕ). x + y) (h c) (g c) ∙ sym (length-received-push c others q)

-- ---- writes

abbrev WriteIs : ℤ → ℤ → ℕ → Type 0
WriteIs (negsuc n) result whole = result ≡ negsuc n
WriteIs (pos n) result whole = result ≡ pos whole

write_is : (refused result : ℤ) (whole length_asked : ℕ) → result ≡ allowed refused result whole → (IsRefusal result ⊎ (result ≡ pos length_asked)) → WriteIs refused result length_asked
write_is (negsuc n) result whole k e x = e
write_is (pos n) (pos m) whole k e (inl (inl x)) = cc
write_is (pos n) (pos m) whole k e (inl (inr x)) = cc
write_is (pos n) (pos m) whole k e (inr x) = x
write_is (pos n) (negsuc m) whole k e x = cc

-- ---- the answers

module _ (differs : SourceByte → Bool) (x y : Setting) (alike : AreSettingsAlike differs x y) (s : State) (a_inputs b_inputs : ℕ) (inputs_same : a_inputs ≡ b_inputs) where
  record ReadSame (before : List CallRecord) (args : List ℕ) (result result1 : ℤ) (bytes bytes1 : List ℕ) : Type 0 where
    result_is : result ≡ result1
    bytes_are : BytesAlike differs (channel_of args) (length (received (channel_of args) before)) bytes bytes1
    long : length bytes ≡ length bytes1

  one_part : (before others : List CallRecord) (args args1 : List ℕ) → AsMuch before others → args ≡ args1
      → part_of y.inputs y.piece (length (received (channel_of args1) others)) args1 ≡ take (min (length_of args) x.piece) (drop (length (received (channel_of args) before)) (input_of y.inputs (channel_of args)))
  one_part before others args args1 much e =
      ap (λ (xs : List ℕ). part_of y.inputs y.piece (length (received (channel_of xs) others)) xs) (sym e)
      ∙ ap₂ (λ (p o : ℕ). part_of y.inputs p o args) (sym alike.piece) (sym (much (channel_of args)))

  reads_same : (before others : List CallRecord) (at at1 : ℕ) (args args1 : List ℕ) (result result1 : ℤ) (bytes bytes1 : List ℕ) (refused refused1 : ℤ) → AsMuch before others → args ≡ args1 → refused ≡ refused1
      → ReadIs refused result bytes (part_of x.inputs x.piece (length (received (channel_of args) before)) args) → ReadIs refused1 result1 bytes1 (part_of y.inputs y.piece (length (received (channel_of args1) others)) args1)
      → ReadSame before args result result1 bytes bytes1
  reads_same before others at at1 args args1 result result1 bytes bytes1 (negsuc n) (negsuc m) much e f h g = record {
    result_is = h.0 ∙ f ∙ sym g.0;
    bytes_are = λ i d. ap (λ (xs : List ℕ). get_or xs i 0) h.1 ∙ sym (ap (λ (xs : List ℕ). get_or xs i 0) g.1);
    long = ap length h.1 ∙ sym (ap length g.1);
  }
  reads_same before others at at1 args args1 result result1 bytes bytes1 (pos n) (pos m) much e f h g =
      let c = channel_of args in
      let o = length (received c before) in
      let k = min (length_of args) x.piece in
      let second = g.1 ∙ one_part before others args args1 much e in
      let lengths : length (take k (drop o (input_of x.inputs c))) ≡ length (take k (drop o (input_of y.inputs c))) = part_length k o (input_of x.inputs c) (input_of y.inputs c) (alike.lengths c) in
      record {
        result_is = h.0 ∙ ap pos (lengths ∙ ap length (sym (one_part before others args args1 much e))) ∙ sym g.0;
        bytes_are = λ i d. ap (λ (xs : List ℕ). get_or xs i 0) h.1 ∙ part_bytes k o i (input_of x.inputs c) (input_of y.inputs c) (alike.bytes c (o + i) d) ∙ sym (ap (λ (xs : List ℕ). get_or xs i 0) second);
        long = ap length h.1 ∙ lengths ∙ sym (ap length second);
      }
  reads_same before others at at1 args args1 result result1 bytes bytes1 refused refused1 much e f h g = cc

  writes_same : (refused refused1 result result1 : ℤ) (n m : ℕ) → refused ≡ refused1 → n ≡ m → WriteIs refused result n → WriteIs refused1 result1 m → result ≡ result1
  writes_same (negsuc i) (negsuc j) result result1 n m e f h g = h ∙ e ∙ sym g
  writes_same (pos i) (pos j) result result1 n m e f h g = h ∙ ap pos f ∙ sym g
  writes_same refused refused1 result result1 n m e f h g = cc

  allowed_read : (state : State) (inputs at : ℕ) (args : List ℕ) (result : ℤ) (bytes : List ℕ) → IsLawful state inputs (Read at args result bytes) → result ≡ allowed (refusal_of state inputs (arguments_of state)) result 0
  allowed_read state inputs at args result bytes lawful =
      let compared = result_compared result (allowed (refusal_of state inputs (arguments_of state)) result 0) in
      (first_agrees compared [] (rest_agrees (arguments state args) (compared ∷ []) lawful)).0

  allowed_write : (state : State) (inputs at : ℕ) (args : List ℕ) (result : ℤ) (bytes : List ℕ) → IsLawful state inputs (Write at args result bytes) → result ≡ allowed (refusal_of state 16 (arguments_of state)) result (reg state 12)
  allowed_write state inputs at args result bytes lawful =
      let compared = result_compared result (allowed (refusal_of state 16 (arguments_of state)) result (reg state 12)) in
      let rest = bytes_compared 0 bytes (bytes_at state (reg state 11) (length bytes)) in
      (first_agrees compared rest (rest_agrees (arguments state args) (compared ∷ rest) lawful)).0

  answers_from : (rs qs before others : List CallRecord) → AreLawful a_inputs s rs → AreLawful b_inputs s qs → AllReadNext x.inputs x.piece before rs → AllReadNext y.inputs y.piece others qs → AreAnswersAlike (clock_values rs) (clock_values qs) → AsMuch before others → SameAnswers differs before rs qs
  answers_from [] qs before others la lb na nb clock much = tt
  answers_from (r ∷ rs) [] before others la lb na nb clock much = tt
  answers_from (Read at args result bytes ∷ rs) (Read at1 args1 result1 bytes1 ∷ qs) before others la lb na nb clock much = λ asks.
      let one = la.0 in
      let two = lb.0 in
      let first_args = read_arguments one.state a_inputs at args result bytes one.form one.lawful in
      let second_args = read_arguments two.state b_inputs at1 args1 result1 bytes1 two.form two.lawful in
      let refused = one_refusal s one.state two.state a_inputs b_inputs (arguments_of one.state) (arguments_of two.state) one.window two.window inputs_same (sym first_args ∙ asks.1 ∙ second_args) in
      let same = reads_same before others at at1 args args1 result result1 bytes bytes1 (refusal_of one.state a_inputs (arguments_of one.state)) (refusal_of two.state b_inputs (arguments_of two.state)) much asks.1 refused
      (read_is x.inputs x.piece before (refusal_of one.state a_inputs (arguments_of one.state)) at args result bytes (allowed_read one.state a_inputs at args result bytes one.lawful) one.form.1.whole na.0)
      (read_is y.inputs y.piece others (refusal_of two.state b_inputs (arguments_of two.state)) at1 args1 result1 bytes1 (allowed_read two.state b_inputs at1 args1 result1 bytes1 two.lawful) two.form.1.whole nb.0) in (
        (same.result_is, same.bytes_are),
        answers_from rs qs (before ++ Read at args result bytes ∷ []) (others ++ Read at1 args1 result1 bytes1 ∷ []) la.1 lb.1 na.1 nb.1 clock
            (as_much_after before others (Read at args result bytes) (Read at1 args1 result1 bytes1) much
            (λ c. kept_length (channel_of args == c) bytes bytes1 same.long ∙ ap (λ (xs : List ℕ). length (kept_if (channel_of xs == c) bytes1)) asks.1)),
      )
  answers_from (Write at args result bytes ∷ rs) (Write at1 args1 result1 bytes1 ∷ qs) before others la lb na nb clock much = λ asks.
      let one = la.0 in
      let two = lb.0 in
      let first_args = write_arguments one.state a_inputs at args result bytes one.form one.lawful in
      let second_args = write_arguments two.state b_inputs at1 args1 result1 bytes1 two.form two.lawful in
      let refused = one_refusal s one.state two.state 16 16 (arguments_of one.state) (arguments_of two.state) one.window two.window refl (sym first_args ∙ asks.1 ∙ second_args) in
      let same = writes_same (refusal_of one.state 16 (arguments_of one.state)) (refusal_of two.state 16 (arguments_of two.state)) result result1 (length_of args) (length_of args1) refused (ap length_of asks.1)
      (write_is (refusal_of one.state 16 (arguments_of one.state)) result (reg one.state 12) (length_of args) (allowed_write one.state a_inputs at args result bytes one.lawful) one.form.2)
      (write_is (refusal_of two.state 16 (arguments_of two.state)) result1 (reg two.state 12) (length_of args1) (allowed_write two.state b_inputs at1 args1 result1 bytes1 two.lawful) two.form.2) in (
        same,
        answers_from rs qs (before ++ Write at args result bytes ∷ []) (others ++ Write at1 args1 result1 bytes1 ∷ []) la.1 lb.1 na.1 nb.1 clock
            (as_much_after before others (Write at args result bytes) (Write at1 args1 result1 bytes1) much
            (λ c. kept_length (channel_of args == c) [] [] refl ∙ ap (λ (xs : List ℕ). length (kept_if (channel_of xs == c) [])) asks.1)),
      )
  answers_from (Clock at value ∷ rs) (Clock at1 value1 ∷ qs) before others la lb na nb clock much = λ asks. (
    clock.0,
    answers_from rs qs (before ++ Clock at value ∷ []) (others ++ Clock at1 value1 ∷ []) la.1 lb.1 na.1 nb.1 clock.1
        (as_much_after before others (Clock at value) (Clock at1 value1) much (λ c. refl)),
  )
  answers_from (Other at number ∷ rs) (Other at1 number1 ∷ qs) before others la lb na nb clock much = λ asks. (
    tt,
    answers_from rs qs (before ++ Other at number ∷ []) (others ++ Other at1 number1 ∷ []) la.1 lb.1 na.1 nb.1 clock
        (as_much_after before others (Other at number) (Other at1 number1) much (λ c. refl)),
  )
  answers_from left rest before others la lb na nb clock much = λ asks. absurd asks

-- ---- two recordings

pub recordings_are_alike : RecordingsAreAlike
recordings_are_alike x y answers others a b differs alike bytes clock first second q is chosen none =
    let fits_too = subst (λ (w : List ℕ). Fits w b) (sym alike.program) second.fits in
    let pages = first.has_pages ∙ alike.pages ∙ sym second.has_pages in
    let runs : AreRuns x.program a b = record { bytes = bytes; first = first.is_log; second = second.is_log; fits = first.fits; fits_too = fits_too; pages = pages } in
    let s = first.fits.start in
    let run_a = fits_makes_run x.program a bytes first.is_log first.fits in
    let run_b : IsRun b s = subst (IsRun b) (begins_alike x.program a b runs) (fits_makes_run x.program b bytes second.is_log fits_too) in
    let inputs : a.inputs ≡ b.inputs = first.has_channels ∙ alike.channels ∙ sym second.has_channels in
    let heard : AreAnswersAlike (clock_values a.records) (clock_values b.records) = rw (first.has_answers, second.has_answers) clock in
    let same = answers_from differs x y alike s a.inputs b.inputs inputs a.records b.records [] [] (all_lawful a s run_a) (all_lawful b s run_b) first.reads_inputs second.reads_inputs heard (λ c. refl) in
    no_influence x.program a b runs q differs is chosen none same x.steps first.ends_within (subst (λ (n : ℕ). EndsWithin n b.end) (sym alike.steps) second.ends_within)
