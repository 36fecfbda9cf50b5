-- A recording so far, as it goes on step by step.
use Rattle.std.proofs.Common.{◌≡◌, ℕ, zero, suc, ◌+◌, ◌*◌, ◌^◌, ◌<◌, ◌≤◌, ◌⊎◌, inl, inr, Bool, false, List, [], ◌∷◌, ◌++◌, length, get_or, replicate, Option, None, Result, Ok, Err, refl, arith, ap, sym, ◌∙◌, subst}
use Rattle.std.specs.Result.{OnErr}
use Rattle.std.specs.List.{sum_by}
use Rattle.std.proofs.lemmas.List.{length-map}
use Rattle.std.proofs.lemmas.List.Sums.{sum_by_push}
use Rattle.isa.specs.Machine.{State, reg, call_of}
use Rattle.isa.specs.Calls.{buffer_of}
use Rattle.log_model.specs.declared.CallRecord.{CallRecord}
use Rattle.log_model.specs.declared.CallRecord.TheVariants.{Read}
use Rattle.log_model.specs.declared.RunEnd.{RunEnd}
use Rattle.log_model.specs.declared.RunEnd.TheVariants.{Exit, Trap, Limit}
use Rattle.log_model.specs.Logs.{Log, IsRecord, IsEnd, end_at, share}
use Rattle.log_model.specs.Moved.{received, received_by}
use Rattle.replay_model.specs.Run.{state_after}
use Rattle.replay_model.specs.Comparison.{divergence}
use Rattle.record_model.specs.Recorded.{clock_values, EndsWithin}
use Rattle.record_model.specs.Calls.{record_at, EndsIn}
use Rattle.record_model.proofs.Calls.{next_record, IsHere, next_here}
use Rattle.record_model.proofs.Pushes.{values_push}
use Rattle.record_model.proofs.Sound.{length-room, read_room}
use Rattle.record_model.specs.Counts.{capped}
use Rattle.log_model.proofs.Moved.{length-received-push}
use Rattle.record_model.proofs.Fronts.{received-within}
use Rattle.record_model.proofs.Runs.{RunsTo, runs_none, runs_plain, runs_call, runs_end, runs_cut}
use Rattle.rv_machine.specs.Hart.{Hart, running}
use Rattle.rv_machine.specs.Running.{Tells as TellsOf, Wants, IsFollowed, Begun, Then}
use Rattle.outer_io.specs.Tells.{Tells, Gains}
use Rattle.outer_io.proofs.TellsLemmas.{tells-gains, tells-gains-none, tells-nothing}
use Rattle.call_record.specs.Sources.{contents}
use Rattle.call_record.specs.Tapes.{Holds, Adds}
use Rattle.call_record.specs.Steps.{Point, point_of, IsSafe, due_record, IsPlain, IsCall, GoesOn, Stops, Gained}
use Rattle.call_record.specs.Runs.{IsFresh, IsRunOf, IsWhole}
use Rattle.call_record.specs.declared.source.Source.{Source}
use Rattle.call_record.specs.declared.tape.Tape.{Tape}
use Rattle.call_record.specs.declared.recorder.Recorder.{Recorder}
use Rattle.call_record.proofs.Counts.{capped_small, capped_add}
use Rattle.call_record.proofs.Windows.{step_keeps}

-- the first t steps of a run that begins in a state are recorded
pub record IsSoFar (start : State) (source : Source) (told : Option (List ℕ)) (t : ℕ) (r : Recorder)
    (told_now : Option (List ℕ)) : Type 0 where
  pub records : List CallRecord
  pub runs : RunsTo start (contents source.inputs.now) source.piece records t r.machine.state
  pub holds : Holds r.tape records
  pub inputs : r.tape.inputs ≡ length source.inputs.now
  pub counts : (c : ℕ) → get_or r.counts c 0 ≡ length (received c records)
  pub goes_on : r.machine.waits ≡ false
  pub safe : IsSafe source (point_of r)
  pub gained : Tells told told_now (Gains (clock_values records))

-- the same, and no more steps than there are to be
pub record IsRunning (start : State) (source : Source) (told : Option (List ℕ)) (t steps : ℕ) (r : Recorder)
    (told_now : Option (List ℕ)) : Type 0 where
  pub so_far : IsSoFar start source told t r told_now
  pub within : t ≤ steps

-- ---- the start

-- a call that failed, and did not ask the clock
pub gained_none : {T E : Type 0} (result : Result T E) (told : Option (List ℕ)) → OnErr result (Gained told told)
gained_none (Ok answer) told = tt
gained_none (Err error) told = record { values = []; gained = tells-nothing told }

zeros : (n c : ℕ) → get_or {A = ℕ} (replicate {A = ℕ} n 0) c 0 ≡ 0
zeros zero c = refl
zeros (suc n) zero = refl
zeros (suc n) (suc c) = zeros n c

pub so_far_none : (source : Source) (r : Recorder) (told : Option (List ℕ)) → length source.inputs.now ≤ 16
    → IsFresh (length source.inputs.now) r → r.machine.waits ≡ false
    → length r.machine.state.memory ≤ 2 ^ 24 → IsSoFar r.machine.state source told 0 r told
so_far_none source r told few fresh goes_on window =
    let none : (c : ℕ) → get_or r.counts c 0 ≡ 0 = λ c. ap (λ (w : List ℕ). get_or w c 0) fresh.counts ∙ zeros 16 c in
    let before = 48 + 4 * r.tape.inputs + sum_by (share r.tape.inputs) [] in
    let size : r.tape.size ≡ before = omega (arith, fresh.size, fresh.inputs_are) in
    record {
      records = [];
      runs = runs_none r.machine.state (contents source.inputs.now) source.piece;
      holds = record {
        counted = size ∙ sym (capped_small before (omega (arith, few, fresh.inputs_are)));
        kept = λ h. fresh.records;
      };
      inputs = fresh.inputs_are;
      counts = none;
      goes_on = goes_on;
      safe = record { window = window; within = λ c. let zero = none c in omega arith };
      gained = tells-nothing told;
    }

-- ---- a plain step

plain_more : {start : State} {source : Source} {told told_now told_after : Option (List ℕ)} {t : ℕ} {r after : Recorder} {values : List ℕ}
    → IsSoFar start source told t r told_now → Tells told_now told_after (Gains values) → IsPlain values (point_of r) after
    → IsSoFar start source told (t + 1) after told_after
plain_more {start} {source} {told} {told_now} {told_after} {t} {r} {after} so_far gained plain =
    let window = so_far.safe.window in
    let kept = step_keeps r.machine.state after.machine.state plain.retired in
    record {
      records = so_far.records;
      runs = runs_plain start (contents source.inputs.now) source.piece so_far.records t r.machine.state after.machine.state plain.retired so_far.runs;
      holds = rw plain.tape so_far.holds;
      inputs = rw plain.tape so_far.inputs;
      counts = rw plain.counts so_far.counts;
      goes_on = plain.goes_on;
      safe = record { window = omega arith; within = rw plain.counts so_far.safe.within };
      gained = tells-gains-none told told_now told_after (clock_values so_far.records) so_far.gained
          (subst (λ (w : List ℕ). Tells told_now told_after (Gains w)) plain.no_values gained);
    }

-- a recorder whose machine goes on from a state
abbrev at_state : Recorder → State → Recorder
at_state r s = record r { machine = running s }

-- plain steps in a row, whoever is told of them
module _ {W : Type 0} {heard : TellsOf W} {wants : Wants W} {start : State} {source : Source} {told told_now : Option (List ℕ)} {t : ℕ}
    {r : Recorder} {was : W} (so_far : IsSoFar start source told t r told_now) where
  row : {n : ℕ} {s : State} {w : W} → IsFollowed heard wants r.machine.state was n s w
      → IsSoFar start source told (t + n) (at_state r s) told_now
  row Begun =
      let none : t ≡ t + 0 = omega arith in
      let same : r ≡ at_state r r.machine.state = ap (λ (b : Bool). record r { machine = record { state = r.machine.state; waits = b } })
      so_far.goes_on in
      subst (λ (n : ℕ). IsSoFar start source told n (at_state r r.machine.state) told_now) none
      (subst (λ (x : Recorder). IsSoFar start source told t x told_now) same so_far)
  row (Then n s w instr after next before wanted step is_heard) =
      let more : t + n + 1 ≡ t + suc n = omega arith in
      let plain : IsPlain [] (point_of (at_state r s)) (at_state r after) = record { retired = step.retired; goes_on = refl; counts = refl; tape = refl; no_values = refl } in
      subst (λ (n : ℕ). IsSoFar start source told n (at_state r after) told_now) more
      (plain_more (row before) (tells-nothing told_now) plain)

  pub so_far_row : {n : ℕ} (after : Hart) {w : W} → IsFollowed heard wants r.machine.state was n after.state w → after.waits ≡ false
      → IsSoFar start source told (t + n) (record r { machine = after }) told_now
  so_far_row {n} after followed goes_on =
      subst (λ (b : Bool). IsSoFar start source told (t + n) (record r { machine = record { state = after.state; waits = b } }) told_now)
      (sym goes_on) (row followed)

-- ---- a call

window_after : (inputs : List (List ℕ)) (piece : ℕ) (before : List CallRecord) (t : ℕ) (s : State) (r : CallRecord)
    → IsHere inputs piece before t s r → length (state_after s r).memory ≡ length s.memory
window_after inputs piece before t s (Read at args result bytes) here =
    length-room s (buffer_of args) bytes (read_room s (length inputs) at args result bytes here.form here.lawful)
window_after inputs piece before t s r here = refl

holds_more : (before after : Tape) (records : List CallRecord) (r : CallRecord) → Holds before records
    → Adds before r after → Holds after (records ++ r ∷ [])
holds_more before after records r holds adds =
    let inputs = before.inputs in
    let all : 48 + 4 * inputs + sum_by (share inputs) records + share inputs r ≡
    48 + 4 * inputs + sum_by (share inputs) (records ++ r ∷ []) = omega (arith, sum_by_push (share inputs) records r) in
    let counted : after.size ≡ capped (48 + 4 * inputs + sum_by (share inputs) (records ++ r ∷ [])) = adds.counted
    ∙ ap (λ (n : ℕ). capped (n + share inputs r)) holds.counted
    ∙ capped_add (48 + 4 * inputs + sum_by (share inputs) records) (share inputs r) ∙ ap capped all in
    record {
      counted = counted
          ∙ ap (λ (n : ℕ). capped (48 + 4 * n + sum_by (share n) (records ++ r ∷ []))) (sym adds.inputs);
      kept = λ h. adds.kept h ∙ ap (λ (w : List CallRecord). w ++ r ∷ [])
          (holds.kept (omega (arith, h, adds.counted, holds.counted)));
    }

-- the record of a call is the one after those so far
here_now : (source : Source) (t : ℕ) (values : List ℕ) (p : Point) (records : List CallRecord) (made : CallRecord)
    → ((c : ℕ) → get_or p.counts c 0 ≡ length (received c records)) → made ≡ due_record source t values p
    → IsRecord made → IsHere (contents source.inputs.now) source.piece records t p.state made
here_now source t values p records made counts e form =
    let s = p.state in
    let inputs = contents source.inputs.now in
    let next : CallRecord = next_record inputs source.piece records values t s (call_of s).kind in
    let is : made ≡ next = e ∙ ap (λ (n : ℕ). record_at inputs source.piece n values t s (call_of s).kind)
    (counts (reg s 10)) in
    subst (IsHere inputs source.piece records t s) (sym is)
    (next_here inputs source.piece records values t s (call_of s).kind (subst IsRecord is form))

call_more : {start : State} {source : Source} {told told_now told_after : Option (List ℕ)} {t : ℕ} {r after : Recorder} {values : List ℕ}
    → IsSoFar start source told t r told_now → Tells told_now told_after (Gains values) → IsCall source t values (point_of r) after
    → IsSoFar start source told (t + 1) after told_after
call_more {start} {source} {told} {told_now} {told_after} {t} {r} {after} {values} so_far gained call =
    let made = call.records.made in
    let keeps = call.records.keeps in
    let s = r.machine.state in
    let inputs = contents source.inputs.now in
    let all = so_far.records ++ made ∷ [] in
    let here = here_now source t values (point_of r) so_far.records made so_far.counts call.records.is_due call.records.form in
    let state : after.machine.state ≡ state_after s made = ap (λ (h : Hart). h.state) keeps.machine in
    let runs = runs_call start inputs source.piece so_far.records t s made (call_of s) call.called call.records.kind_is here so_far.runs in
    let counts : (c : ℕ) → get_or after.counts c 0 ≡ length (received c all) =
    λ c. keeps.counts c ∙ ap (λ (n : ℕ). n + length (received_by c made)) (so_far.counts c) ∙ sym (length-received-push c so_far.records made) in
    let window = so_far.safe.window in
    let memory : length after.machine.state.memory ≡ length s.memory =
    ap (λ (x : State). length x.memory) state ∙ window_after inputs source.piece so_far.records t s made here in
    record {
      records = all;
      runs = subst (RunsTo start inputs source.piece all (t + 1)) (sym state) runs;
      holds = holds_more r.tape after.tape so_far.records made so_far.holds keeps.tape;
      inputs = keeps.tape.inputs ∙ so_far.inputs;
      counts = counts;
      goes_on = ap (λ (h : Hart). h.waits) keeps.machine;
      safe = record {
        window = omega arith;
        within = λ c. let up = counts c in let below = received-within inputs source.piece all runs.form runs.reads c in omega arith;
      };
      gained = subst (λ (w : List ℕ). Tells told told_after (Gains w))
          (ap (λ (w : List ℕ). clock_values so_far.records ++ w) (sym call.records.values_are) ∙ sym (values_push so_far.records made))
          (tells-gains told told_now told_after (clock_values so_far.records) values so_far.gained gained);
    }

-- how a run ends before its steps are done
ends_by : (s : State) (t steps : ℕ) (end : RunEnd) → t < steps → EndsIn s t end → (end_at end ≡ t) × EndsWithin steps end
ends_by s t steps (Exit at code) early stop = let at_is = stop.0 in (at_is, omega arith)
ends_by s t steps (Trap at kind pc) early stop = let at_is = stop.0 in (at_is, omega arith)
ends_by s t steps (Limit at) early stop = absurd stop

module _ {start : State} {source : Source} {told told_now : Option (List ℕ)} {t : ℕ} {r : Recorder} (so_far : IsSoFar start source told t r told_now) where
  -- one more step
  pub so_far_more : {told_after : Option (List ℕ)} {after : Recorder} → GoesOn source t (point_of r) after told_now told_after
      → IsSoFar start source told (t + 1) after told_after
  so_far_more {told_after} {after} on = by on.step
    where
      by : IsPlain on.values (point_of r) after ⊎ IsCall source t on.values (point_of r) after → IsSoFar start source told (t + 1) after told_after
      by (inl plain) = plain_more so_far on.gained plain
      by (inr call) = call_more so_far on.gained call

  ended : (steps : ℕ) (end : RunEnd) → IsEnd end → (end_at end ≡ t) × EndsWithin steps end
      → ((log : Log) → log.inputs ≡ length (contents source.inputs.now) → log.records ≡ so_far.records → log.end ≡ end → divergence start log ≡ None)
      → IsRunOf start source steps end so_far.records
  ended steps end form by agrees =
      let before = so_far.runs.before in
      let at = by.0 in
      record {
        form = so_far.runs.form;
        end_form = form;
        rise = so_far.runs.rise;
        ends_after = omega arith;
        reads = so_far.runs.reads;
        ends = by.1;
        agrees = λ log i w e. agrees log (i ∙ sym (length-map source.inputs.now _)) w e;
      }

  -- the run ends before its steps are done
  pub so_far_stops : {told_after : Option (List ℕ)} {after : Recorder} {steps : ℕ} {end : RunEnd} → t < steps → Stops t end (point_of r) after told_now told_after
      → IsWhole start source steps end after.tape told told_after
  so_far_stops {told_after} {after} {steps} {end} early stops = record {
    records = so_far.records;
    run = ended steps end stops.form (ends_by r.machine.state t steps end early stops.ends_in)
        (runs_end start (contents source.inputs.now) source.piece so_far.records t r.machine.state end stops.ends_in so_far.runs);
    holds = rw stops.tape so_far.holds;
    gained = tells-gains-none told told_now told_after (clock_values so_far.records) so_far.gained stops.gained;
    inputs_are = rw stops.tape so_far.inputs;
  }

  -- the steps are done
  pub so_far_cut : (steps : ℕ) → steps ≤ 2 ^ 40 → t ≡ steps → IsWhole start source steps (Limit steps) r.tape told told_now
  so_far_cut steps small done = record {
    records = so_far.records;
    run = ended steps (Limit steps) small (sym done, refl) (subst (λ (n : ℕ). (log : Log) → log.inputs ≡ length (contents source.inputs.now)
        → log.records ≡ so_far.records → log.end ≡ Limit n → divergence start log ≡ None) done
        (runs_cut start (contents source.inputs.now) source.piece so_far.records t r.machine.state so_far.runs));
    holds = so_far.holds;
    gained = so_far.gained;
    inputs_are = so_far.inputs;
  }
