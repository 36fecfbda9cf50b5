-- A run so far: its calls have their records, and nothing differs up to here, whatever a log goes on with. Crates above
-- cite these lemmas.
use Rattle.std.proofs.Common.{◌≡◌, ℕ, suc, ◌+◌, ◌-◌, ◌≤◌, List, [], ◌∷◌, ◌++◌, length, pos, Option, None, refl, arith, ap, sym, ◌∙◌, subst, append_assoc, append-nil}
use Rattle.std.specs.List.{AllByRecursion}
use Rattle.isa.specs.Machine.{State, Outcome, Retired, Called, next}
use Rattle.isa.specs.declared.Call.{Call}
use Rattle.log_model.specs.declared.CallRecord.{CallRecord}
use Rattle.log_model.specs.declared.RunEnd.{RunEnd}
use Rattle.log_model.specs.declared.RunEnd.TheVariants.{Exit, Trap, Limit}
use Rattle.log_model.specs.Logs.{Log, IsRecord, Rise, least_after, at_of, end_at}
use Rattle.replay_model.specs.declared.Field.TheVariants as field
use Rattle.replay_model.specs.Run.{Moment, start as begins_at, advance, state_after, after_outcome}
use Rattle.replay_model.specs.Comparison.{Compared, compared, first_different, PlainStep, CallOf, EndOf, expected, kept_event, call_event, seen_event, fields, trap_kind, difference, difference_at, or_later, divergence_from, divergence, IsLawful}
use Rattle.replay_model.proofs.Agreement.{expects_plain_at_end, expects_plain_before, expects_call, expects_end, first_different-same, none_differs, compares}
use Rattle.replay_model.proofs.Track.{moment, least_rises}
use Rattle.log_model.proofs.Records.{all_push, rise_push, least_push}
use Rattle.record_model.specs.Recorded.{AllReadNext}
use Rattle.record_model.specs.Calls.{EndsIn}
use Rattle.record_model.proofs.Calls.{IsHere}
use Rattle.record_model.proofs.Pushes.{reads_push}

-- where nothing differs at a moment, and nothing from the next one on, nothing differs from it on
one_more : (log : Log) (t : ℕ) (m after : Moment) → t ≤ end_at log.end → difference log m ≡ None → advance m ≡ after
    → divergence_from log (end_at log.end + 1 - (t + 1)) after ≡ None → divergence_from log (end_at log.end + 1 - t) m ≡ None
one_more log t m after below same moves rest =
    let n : ℕ = end_at log.end + 1 - (t + 1) in
    let e : end_at log.end + 1 - t ≡ suc n = omega arith in
    let here : divergence_from log (suc n) m ≡ None =
    ap (λ (d : Option Compared). or_later m.time d (divergence_from log n (advance m))) same ∙ ap (divergence_from log n) moves ∙ rest in
    subst (λ (k : ℕ). divergence_from log k m ≡ None) (sym e) here

later_rise : (t : ℕ) (more : List CallRecord) → Rise (t + 1) more → Rise t more
later_rise t [] rise = tt
later_rise t (r ∷ rs) rise = let first = rise.0 in (omega arith, rise.1)

later_least : (t n : ℕ) (more : List CallRecord) → least_after (t + 1) more ≤ n → least_after t more ≤ n
later_least t n [] h = omega arith
later_least t n (r ∷ rs) h = h

expects_plain : (t : ℕ) (more : List CallRecord) (end : RunEnd) → Rise (t + 1) more → least_after (t + 1) more ≤ end_at end → expected t more end ≡ PlainStep
expects_plain t [] end rise last = expects_plain_at_end t end (omega arith)
expects_plain t (r ∷ rs) end rise last = let first = rise.0 in expects_plain_before t r rs end (omega arith)

plain_same : (m : Moment) (inputs : ℕ) (s : State) → next m.state ≡ Retired s → difference_at m inputs PlainStep ≡ None
plain_same m inputs s e = ap (λ (o : Outcome). first_different (compared field.Event 0 (seen_event o) ∷ [])) e

call_same : (m : Moment) (inputs : ℕ) (r : CallRecord) (call : Call) → next m.state ≡ Called call → call_event call.kind ≡ kept_event (CallOf r)
    → IsLawful m.state inputs r → difference_at m inputs (CallOf r) ≡ None
call_same m inputs r call e k lawful =
    let seen : kept_event (CallOf r) ≡ seen_event (next m.state) = sym k ∙ sym (ap seen_event e) in
    first_different-same (compared field.Event (kept_event (CallOf r)) (seen_event (next m.state))) (fields m.state inputs (CallOf r)) (ap pos seen) ∙ lawful

-- where the run ends in a state, the log may end so
end_same : (t : ℕ) (m : Moment) (inputs : ℕ) (end : RunEnd) → EndsIn m.state t end → difference_at m inputs (EndOf end) ≡ None
end_same t m inputs (Exit at code) stop =
    let seen : 5 ≡ seen_event (next m.state) = sym (ap call_event stop.2) ∙ sym (ap seen_event stop.1) in
    none_differs (compares m inputs (EndOf (Exit at code))) (ap pos seen, (ap pos stop.3, tt))
end_same t m inputs (Trap at k pc) stop =
    let seen : 6 ≡ seen_event (next m.state) = sym (ap seen_event stop.1) in
    let same : k ≡ trap_kind (next m.state) = sym (ap trap_kind stop.1) in
    none_differs (compares m inputs (EndOf (Trap at k pc))) (ap pos seen, (ap pos same, (ap pos stop.2, tt)))
end_same t m inputs (Limit at) stop = absurd stop

ends_at : (s : State) (t : ℕ) (end : RunEnd) → EndsIn s t end → end_at end ≡ t
ends_at s t (Limit at) stop = absurd stop
ends_at s t end stop = stop.0

module _ (start : State) (inputs : List (List ℕ)) (piece : ℕ) where
  -- these records were made by the first t steps, which end in the state s
  pub record RunsTo (done : List CallRecord) (t : ℕ) (s : State) : Type 0 where
    pub form : AllByRecursion IsRecord done
    pub rise : Rise 0 done
    pub before : least_after 0 done ≤ t
    pub reads : AllReadNext inputs piece [] done
    pub goes_on : (log : Log) (more : List CallRecord) → log.inputs ≡ length inputs → log.records ≡ done ++ more → Rise t more → least_after t more ≤ end_at log.end
        → divergence_from log (end_at log.end + 1 - t) (moment t s done more) ≡ None → divergence start log ≡ None

  begin : (log : Log) (records : List CallRecord) → log.records ≡ records
      → divergence_from log (end_at log.end + 1 - 0) (moment 0 start [] records) ≡ None → divergence start log ≡ None
  begin log records e h =
      let n : end_at log.end + 1 - 0 ≡ end_at log.end + 1 = omega arith in
      subst (λ (k : ℕ). divergence_from log k (begins_at start log) ≡ None) n
      (subst (λ (w : List CallRecord). divergence_from log (end_at log.end + 1 - 0) (moment 0 start [] w) ≡ None) (sym e) h)

  pub runs_none : RunsTo [] 0 start
  runs_none = record { form = tt; rise = tt; before = omega arith; reads = tt; goes_on = λ log more i e rise last h. begin log more e h }

  -- ---- a plain step

  pub runs_plain : (done : List CallRecord) (t : ℕ) (s after : State) → next s ≡ Retired after → RunsTo done t s → RunsTo done (t + 1) after
  runs_plain done t s after e so_far = record {
    form = so_far.form;
    rise = so_far.rise;
    before = let earlier = so_far.before in omega arith;
    reads = so_far.reads;
    goes_on = λ log more i w rise last h.
        let m = moment t s done more in
        let reach = least_rises (t + 1) more rise in
        let same : difference log m ≡ None = ap (difference_at m log.inputs) (expects_plain t more log.end rise last) ∙ plain_same m log.inputs after e in
        so_far.goes_on log more i w (later_rise t more rise) (later_least t (end_at log.end) more last)
        (one_more log t m (moment (t + 1) after done more) (omega arith) same (ap (after_outcome m) e) h);
  }

  -- ---- a call

  pub runs_call : (done : List CallRecord) (t : ℕ) (s : State) (r : CallRecord) (call : Call) → next s ≡ Called call → call_event call.kind ≡ kept_event (CallOf r)
      → IsHere inputs piece done t s r → RunsTo done t s → RunsTo (done ++ r ∷ []) (t + 1) (state_after s r)
  runs_call done t s r call e k here so_far =
      let earlier = so_far.before in
      let at = here.time in
      let past = least_push 0 done r in
      record {
        form = all_push IsRecord done r so_far.form here.form;
        rise = rise_push 0 done r so_far.rise (omega arith);
        before = omega arith;
        reads = reads_push inputs piece [] done r so_far.reads here.reads;
        goes_on = λ log more i w rise last h.
            let m = moment t s done (r ∷ more) in
            let rises : Rise (at_of r + 1) more = subst (λ (n : ℕ). Rise (n + 1) more) (sym at) rise in
            let lasts : least_after (at_of r + 1) more ≤ end_at log.end = subst (λ (n : ℕ). least_after (n + 1) more ≤ end_at log.end) (sym at) last in
            let reach = least_rises (t + 1) more rise in
            let lawful = subst (λ (n : ℕ). IsLawful s n r) (sym i) here.lawful in
            let same : difference log m ≡ None =
            ap (difference_at m log.inputs) (expects_call t r more log.end (omega arith)) ∙ call_same m log.inputs r call e k lawful in
            so_far.goes_on log (r ∷ more) i (w ∙ append_assoc done (r ∷ []) more) (omega arith, rises) lasts
            (one_more log t m (moment (t + 1) (state_after s r) (done ++ r ∷ []) more) (omega arith) same (ap (after_outcome m) e) h);
      }

  -- ---- the end

  -- a log of this run that ends so
  abbrev pub EndsSo : List CallRecord → RunEnd → Type 0
  EndsSo done end = (log : Log) → log.inputs ≡ length inputs → log.records ≡ done → log.end ≡ end → divergence start log ≡ None

  runs_out : (done : List CallRecord) (t : ℕ) (s : State) (end : RunEnd) → end_at end ≡ t
      → difference_at (moment t s done []) (length inputs) (EndOf end) ≡ None → RunsTo done t s → EndsSo done end
  runs_out done t s end at agrees so_far log i w e =
      let m = moment t s done [] in
      let last : end_at log.end ≡ t = ap end_at e ∙ at in
      let same : difference log m ≡ None =
      ap (difference_at m log.inputs) (expects_end t log.end (omega arith)) ∙ ap (λ (n : ℕ). difference_at m n (EndOf log.end)) i
      ∙ ap (λ (x : RunEnd). difference_at m (length inputs) (EndOf x)) e ∙ agrees in
      let one : end_at log.end + 1 - t ≡ 1 = omega arith in
      let here : divergence_from log 1 m ≡ None = ap (λ (d : Option Compared). or_later m.time d None) same in
      so_far.goes_on log [] i (w ∙ sym (append-nil done)) tt (omega arith) (subst (λ (k : ℕ). divergence_from log k m ≡ None) (sym one) here)

  -- the run ends by itself, or it is cut off
  pub runs_end : (done : List CallRecord) (t : ℕ) (s : State) (end : RunEnd) → EndsIn s t end → RunsTo done t s → EndsSo done end
  runs_end done t s end stop so_far = runs_out done t s end (ends_at s t end stop) (end_same t (moment t s done []) (length inputs) end stop) so_far

  pub runs_cut : (done : List CallRecord) (t : ℕ) (s : State) → RunsTo done t s → EndsSo done (Limit t)
  runs_cut done t s so_far = runs_out done t s (Limit t) refl refl so_far
