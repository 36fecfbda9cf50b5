-- What no step writes stays the same.
use Rattle.std.proofs.Common.{◌≡◌, ℕ, zero, suc, ◌+◌, ◌-◌, ◌<◌, ◌≤◌, ◌⊎◌, inl, inr, Bool, true, false, if◌then◌else◌, List, [], ◌∷◌, length, get_or, Option, Some, None, find, cond, refl, ap, sym, ◌∙◌, subst, arith, nat_le, nat_lt, leb-true, ltb-true}
use Rattle.std.specs.Prelude.{◌||◌, codes, is_some}
use Rattle.std.specs.List.{All, Contains}
use Rattle.std.proofs.lemmas.Bool.{true≢false, and_parts, or_parts, cases_lt}
use Rattle.std.proofs.lemmas.List.Elements.{All-nil, All-cons, All-contains}
use Rattle.isa.specs.Machine.{State, in_window}
use Rattle.isa.proofs.Window.{holds_by}
use Rattle.log_model.specs.Logs.{steps}
use Rattle.flow_model.specs.declared.StepSeen.{StepSeen}
use Rattle.flow_model.specs.declared.CallSeen.{CallSeen}
use Rattle.flow_model.specs.Origins.{step_at}
use Rattle.replay_model.specs.Run.{start, moment_after, step_of}
use Rattle.replay_model.proofs.Offsets.{step_at_from}
use Rattle.replayer.specs.Jobs.{Job, IsJob, trace_of}
use Rattle.checkpoints.specs.Touched.{written_by as noted_by}
use Rattle.checkpoints.proofs.Writing.{Changes, changed_by, state_at}
use Rattle.remote_packets.specs.declared.packet.Move.TheVariants.{ReverseContinue}
use Rattle.run_travel.specs.declared.cause.Cause.TheVariants.{Arrived, Watched}
use Rattle.run_travel.specs.declared.kind.WatchKind.{WatchKind}
use Rattle.run_travel.specs.declared.kind.WatchKind.TheVariants.{Writes, Reads, Both}
use Rattle.run_travel.specs.declared.watch.Watch.{Watch}
use Rattle.run_travel.specs.Accesses.{written_by, read_by}
use Rattle.run_travel.specs.Stops.{PointsAt, looks_at, is_watched, is_looked_for, meets, met_by, met_at, pc_at, is_break, stops_before}
use Rattle.run_travel.specs.Moves.{stop_back, time_before, cause_of, cause_back}
use Rattle.run_travel.specs.MoveLaws as moves
use Rattle.debug_model.specs.Sessions.{SessionAt}
use Rattle.debug_model.specs.StopTexts.{stop_text}
use Rattle.debug_model.specs.Answers.{answer_to, after}
use Rattle.debug_model.specs.StateLaws.{byte_at}
use Rattle.debug_model.specs.WriteLaws.{looks_for_writes, SameWatched, IsSearched, NothingIsWrittenBetween, NothingIsWrittenBefore, WritesWatched, TheStepWroteIt}
use Rattle.debug_model.proofs.Travelling.{time_of_move}

-- ---- a step that isn't a stop writes no watched byte

find_none : {X : Type 0} (p : X → Bool) (xs : List X) → find p xs ≡ None → All (λ x. p x ≡ false) xs
find_none p [] e = All-nil (λ x. p x ≡ false)
find_none p (x ∷ xs) e = by (find_none p xs) (p x) refl e where
  by : (find p xs ≡ None → All (λ x. p x ≡ false) xs) → (b : Bool) → p x ≡ b → cond b (Some x) (find p xs) ≡ None
      → All (λ x. p x ≡ false) (x ∷ xs)
  by rest true here e = cc
  by rest false here e = All-cons (λ x. p x ≡ false) x xs here (rest e)

none_met : (o : Option Watch) → is_some o ≡ false → o ≡ None
none_met None e = refl
none_met (Some w) e = absurd (true≢false e)

no_writes : (kind : WatchKind) (writes reads : Bool) → looks_for_writes kind ≡ true → is_looked_for kind writes reads ≡ false
    → writes ≡ false
no_writes Writes writes reads looks e = e
no_writes Reads writes reads looks e = absurd (true≢false (sym looks))
no_writes Both writes reads looks e = (or_parts reads writes e).1

-- both crates say alike what a step writes
same_span : (step : StepSeen) (call : Option CallSeen)
    → ((written_by step call).place ≡ (noted_by step call).place) × ((written_by step call).size ≡ (noted_by step call).size)
same_span step None = (refl, refl)
same_span step (Some call) = (refl, refl)

-- a watched byte lies before what is written, or behind it
apart : moves.SomeByteIsOfBoth → (w : Watch) (step : StepSeen) (call : Option CallSeen) (place : ℕ)
    → looks_at w (written_by step call) ≡ false → is_watched w place ≡ true
    → (place < (written_by step call).place) ⊎ ((written_by step call).place + (written_by step call).size ≤ place)
apart some w step call place none watched = by (cases_lt place first) (cases_lt place (first + size)) where
  first : ℕ
  first = (written_by step call).place

  size : ℕ
  size = (written_by step call).size

  by : (place < first) ⊎ (first ≤ place) → (place < first + size) ⊎ (first + size ≤ place)
      → (place < first) ⊎ (first + size ≤ place)
  by (inl before) past = inl before
  by (inr above) (inr behind) = inr behind
  by (inr above) (inl below) =
      absurd (true≢false (sym ((some w (written_by step call)).1 (place, (watched_from.0, watched_from.1, above, below))) ∙ none))
    where
      both : (nat_le w.place place ≡ true) × (nat_lt place (w.place + w.length) ≡ true)
      both = and_parts (nat_le w.place place) (nat_lt place (w.place + w.length)) watched

      watched_from : (w.place ≤ place) × (place < w.place + w.length)
      watched_from = (leb-true w.place place both.0, ltb-true place (w.place + w.length) both.1)

kept_byte : (s t : State) (place first size : ℕ) → Changes s t (record { place = first; size = size })
    → (0 < size → (place < first) ⊎ (first + size ≤ place)) → byte_at t place ≡ byte_at s place
kept_byte s t place first size changes out =
    ap (λ (b : Bool). if b then Some (get_or t.memory (place - t.base) 0) else None) same_window
    ∙ by (in_window s place 1) refl
  where
    same_window : in_window t place 1 ≡ in_window s place 1
    same_window = rw (changes.base, changes.size) refl

    by : (b : Bool) → in_window s place 1 ≡ b
        → (if b then Some (get_or t.memory (place - t.base) 0) else None) ≡ (if b then Some (get_or s.memory (place - s.base) 0) else None)
    by false e = refl
    by true e =
        let held = (holds_by s place 1 e).above in
        ap (λ (base : ℕ). Some (get_or t.memory (place - base) 0)) changes.base
        ∙ ap (λ (byte : ℕ). Some byte) (changes.kept (place - s.base) (λ some. moved held (changes.inside some).above (out some)))
      where
        moved : s.base ≤ place → s.base ≤ first → (place < first) ⊎ (first + size ≤ place)
            → (place - s.base < first - s.base) ⊎ (first - s.base + size ≤ place - s.base)
        moved held above (inl before) = inl (omega arith)
        moved held above (inr behind) = inr (omega arith)

-- a step that isn't a stop back leaves the watched bytes as they are
kept_by : moves.SomeByteIsOfBoth → (job : Job) (points : PointsAt) (w : Watch) (k : ℕ) → IsJob job → k < steps job.log
    → Contains points.watches w → looks_for_writes w.kind ≡ true → stops_before job points k ≡ false → SameWatched job w k (k + 1)
kept_by some job points w k is below set looks stays place watched =
    let one : suc k ≡ k + 1 = omega arith in
    sym (kept_byte (state_at job k) (state_at job (suc k)) place (written_by step step.call).place (written_by step step.call).size changes out)
    ∙ ap (λ (u : ℕ). byte_at (state_at job u) place) one
  where
    step : StepSeen
    step = step_of (moment_after k (start job.start job.log))

    there : step_at (trace_of job) k ≡ Some step
    there = step_at_from (steps job.log) k (start job.start job.log) below

    changes : Changes (state_at job k) (state_at job (suc k)) (record { place = (written_by step step.call).place; size = (written_by step step.call).size })
    changes =
        let same = same_span step step.call in
        rw (same.0, same.1) (changed_by job k step is below there)

    unmet : find (meets step) points.watches ≡ None
    unmet =
        sym (ap (met_by points) there)
        ∙ none_met (met_at job points k) (or_parts (is_some (met_at job points k)) (is_break points (pc_at job k)) stays).0

    none : looks_at w (written_by step step.call) ≡ false
    none = no_writes w.kind (looks_at w (written_by step step.call)) (looks_at w (read_by step step.call)) looks
        (All-contains (λ w. meets step w ≡ false) points.watches w (find_none (meets step) points.watches unmet) set)

    out : 0 < (written_by step step.call).size
        → (place < (written_by step step.call).place) ⊎ ((written_by step step.call).place + (written_by step step.call).size ≤ place)
    out more = apart some w step step.call place none watched

-- so do all steps of a stretch
kept_over : moves.SomeByteIsOfBoth → (job : Job) (points : PointsAt) (w : Watch) (n t : ℕ) → IsJob job → t + n ≤ steps job.log
    → Contains points.watches w → looks_for_writes w.kind ≡ true
    → ((k : ℕ) → t ≤ k → k < t + n → stops_before job points k ≡ false) → SameWatched job w t (t + n)
kept_over some job points w zero t is low set looks none place watched =
    let same : t ≡ t + 0 = omega arith in
    ap (λ (u : ℕ). byte_at (state_at job u) place) same
kept_over some job points w (suc n) t is low set looks none place watched =
    let first = kept_by some job points w t is (omega (arith, low)) set looks (none t (omega arith) (omega arith)) place watched in
    let all : t + 1 + n ≡ t + suc n = omega arith in
    first
    ∙ subst (λ (u : ℕ). byte_at (state_at job (t + 1)) place ≡ byte_at (state_at job u) place) all
    (kept_over some job points w n (t + 1) is (omega (arith, low)) set looks (λ k above below. none k (omega arith) (omega arith)) place watched)

kept_up_to : moves.SomeByteIsOfBoth → (job : Job) (s : SessionAt) (w : Watch) (bytes : List ℕ) (t : ℕ) → IsSearched job s w bytes
    → t ≤ s.time → ((k : ℕ) → t ≤ k → k < s.time → stops_before job s.points k ≡ false) → SameWatched job w t s.time
kept_up_to some job s w bytes t is low none =
    let within = is.within in
    let all : t + (s.time - t) ≡ s.time = omega arith in
    subst (SameWatched job w t) all (kept_over some job s.points w (s.time - t) t is.job_is (omega arith) is.set is.writes (λ k above below. none k above (omega arith)))

-- ---- between the ends of a move back

pub nothing_between : moves.SomeByteIsOfBoth → moves.NothingIsPassedBack → NothingIsWrittenBetween
nothing_between some passed job s w bytes t is after_it low =
    let to = time_of_move job s bytes ReverseContinue is.back in
    by (stop_back job s.points s.time) (passed job s.points s.time) (omega (arith, to, after_it))
  where
    by : (o : Option ℕ) → moves.IsGreatest (stops_before job s.points) 0 s.time o → time_before o < t → SameWatched job w t s.time
    by None none later = kept_up_to some job s w bytes t is low (λ k above below. none k (omega arith) below)
    by (Some step) found later = kept_up_to some job s w bytes t is low (λ k above below. found.3 k (omega arith) below)

-- an answer that tells the beginning is that of a move that found nothing
fourth : List ℕ → ℕ
fourth text = get_or text 4 0

watched_is_other : (kind : WatchKind) (place length : ℕ)
    → stop_text (Watched record { kind = kind; place = place; length = length }) ≡ codes "T05replaylog:begin;" → ⊥
unfolding fourth
watched_is_other Writes place length e = let differ : 0x61 ≡ 0x65 = ap fourth e in absurd (omega (arith, differ))
watched_is_other Reads place length e = let differ : 0x77 ≡ 0x65 = ap fourth e in absurd (omega (arith, differ))
watched_is_other Both place length e = let differ : 0x77 ≡ 0x65 = ap fourth e in absurd (omega (arith, differ))

found_nothing : (job : Job) (points : PointsAt) (o : Option ℕ) → stop_text (cause_back job points o) ≡ codes "T05replaylog:begin;" → o ≡ None
found_nothing job points None e = refl
found_nothing job points (Some step) e = by (met_at job points step) e where
  by : (met : Option Watch) → stop_text (cause_of met Arrived) ≡ codes "T05replaylog:begin;" → Some step ≡ None
  by None e = let differ : 0 ≡ 0x65 = ap (λ (text : List ℕ). get_or text 4 0) e in absurd (omega (arith, differ))
  by (Some w) e = absurd (watched_is_other w.kind w.place w.length e)

pub nothing_before : moves.SomeByteIsOfBoth → moves.NothingIsPassedBack → NothingIsWrittenBefore
nothing_before some passed job s w bytes t is begin low =
    let told : stop_text (cause_back job s.points (stop_back job s.points s.time)) ∷ [] ≡ codes "T05replaylog:begin;" ∷ [] =
    sym (ap (answer_to job s bytes) is.back) ∙ begin in
    let none = found_nothing job s.points (stop_back job s.points s.time) cc in
    let all = subst (moves.IsGreatest (stops_before job s.points) 0 s.time) none (passed job s.points s.time) in
    kept_up_to some job s w bytes t is low (λ k above below. all k (omega arith) below)

-- ---- the step that was taken back

some_met : (o : Option Watch) → is_some o ≡ true → (w : Watch) × (o ≡ Some w)
some_met None e = absurd (true≢false (sym e))
some_met (Some w) e = (w, refl)

or_none : (b : Bool) → (b || false) ≡ true → b ≡ true
or_none true e = refl
or_none false e = e

only_one : (p : Watch → Bool) (w : Watch) (b : Bool) → p w ≡ b → is_some (cond b (Some w) None) ≡ true → p w ≡ true
only_one p w true here e = here
only_one p w false here e = absurd (true≢false (sym e))

-- the step meets the one watchpoint that is set
wrote : moves.SomeByteIsOfBoth → (job : Job) (w : Watch) (k : ℕ) (o : Option StepSeen) → step_at (trace_of job) k ≡ o → w.kind ≡ Writes
    → is_some (met_by (record { breaks = []; watches = w ∷ [] }) o) ≡ true → WritesWatched job w k
wrote some job w k None there kind met = absurd (true≢false (sym met))
wrote some job w k (Some step) there kind met =
    let meets_it = only_one (meets step) w (meets step w) refl met in
    let looks : looks_at w (written_by step step.call) ≡ true =
    sym (ap (λ (kind : WatchKind). is_looked_for kind (looks_at w (written_by step step.call)) (looks_at w (read_by step step.call))) kind) ∙ meets_it in
    let both = (some w (written_by step step.call)).0 looks in
    record { step = step; there = there; byte = both.0; both = both.1 }

pub step_wrote_it : moves.SomeByteIsOfBoth → moves.NothingIsPassedBack → TheStepWroteIt
step_wrote_it some passed job s w bytes kind alone back not_begin =
    by (stop_back job s.points s.time) refl (passed job s.points s.time) where
      to : (after job s bytes).time ≡ time_before (stop_back job s.points s.time)
      to = time_of_move job s bytes ReverseContinue back

      by : (o : Option ℕ) → stop_back job s.points s.time ≡ o → moves.IsGreatest (stops_before job s.points) 0 s.time o
          → WritesWatched job w (after job s bytes).time
      by None none is =
          absurd (not_begin (ap (answer_to job s bytes) back
          ∙ ap (λ (o : Option ℕ). stop_text (cause_back job s.points o) ∷ []) none))
      by (Some k) found is =
          let stops : stops_before job (record { breaks = []; watches = w ∷ [] }) k ≡ true =
          ap (λ (points : PointsAt). stops_before job points k) (sym alone) ∙ is.2 in
          let met = or_none (is_some (met_at job (record { breaks = []; watches = w ∷ [] }) k)) stops in
          subst (WritesWatched job w) (sym (to ∙ ap time_before found)) (wrote some job w k (step_at (trace_of job) k) refl kind met)
