-- A run is recorded in one way: at each step the machine says how the log goes on. Crates above cite one_recording and
-- one_recording_by_zeros.
use Rattle.std.proofs.Common.{◌≡◌, ℕ, zero, suc, ◌+◌, ◌-◌, ◌<◌, ◌≤◌, inl, inr, List, [], ◌∷◌, ◌++◌, length, pos, Some, None, refl, arith, ap, sym, ◌∙◌, subst, take, replicate}
use Rattle.std.specs.List.{AllByRecursion}
use Rattle.std.proofs.lemmas.List.{take_all, take_at, replicate-append-replicate}
use Rattle.std.proofs.lemmas.Bool.{cases_lt}
use Rattle.std.proofs.lemmas.Option.{same_Some}
use Rattle.isa.specs.Machine.{State, Outcome, Retired, Called, Trapped, next, reg}
use Rattle.isa.specs.declared.CallKind.{CallKind}
use Rattle.isa.specs.declared.CallKind.TheVariants as kind
use Rattle.log_model.specs.declared.CallRecord.{CallRecord}
use Rattle.log_model.specs.declared.CallRecord.TheVariants.{Other}
use Rattle.log_model.specs.declared.RunEnd.{RunEnd}
use Rattle.log_model.specs.declared.RunEnd.TheVariants.{Exit, Trap, Limit}
use Rattle.log_model.specs.Logs.{Log, IsRecord, Rise, least_after, at_of, end_at}
use Rattle.elf_model.specs.Image.{image}
use Rattle.replay_model.specs.Run.{Moment, start, advance, state_after, after_outcome}
use Rattle.replay_model.specs.Comparison.{IsLawful, expected, PlainStep, CallOf, EndOf, trap_kind, difference, difference_at, divergence_from, divergence}
use Rattle.replay_model.specs.Fits.{start_in_image}
use Rattle.replay_model.proofs.Agreement.{all_agree, compares, expects_plain_at_end, expects_plain_before, expects_call, expects_end, plain_agrees, call_agrees, exit_agrees, trap_agrees, agrees_at, later_agrees, kind_by}
use Rattle.replay_model.proofs.Track.{moment, agrees_with, least_rises}
use Rattle.record_model.specs.Recorded.{Setting, AllReadNext, IsFrontOf, clock_values, EndsWithin, IsRecorded}
use Rattle.record_model.proofs.Calls.{next_record, IsHere, IsTheOne, answers_after, record_is}

-- ---- the rest of a recorded log

-- a moment of a recorded run: the answers of the clock that are left, the steps done, the state, and the calls made
record Point : Type 0 where
  answers : List ℕ
  time : ℕ
  state : State
  before : List CallRecord

abbrev moment_at : Point → List CallRecord → Moment
moment_at p left = moment p.time p.state p.before left

abbrev after_step : Point → State → Point
after_step p s = record { answers = p.answers; time = p.time + 1; state = s; before = p.before }

abbrev after_answer : Point → CallKind → CallRecord → Point
after_answer p k r = record { answers = answers_after p.answers k; time = p.time + 1; state = state_after p.state r; before = p.before ++ r ∷ [] }

abbrev record_of : Setting → Point → CallKind → CallRecord
record_of st p k = next_record st.inputs st.piece p.before p.answers p.time p.state k

module _ (st : Setting) (log : Log) where
  -- the log goes on so from here
  record IsRest (p : Point) (left : List CallRecord) : Type 0 where
    channels : log.inputs ≡ length st.inputs
    form : AllByRecursion IsRecord left
    rise : Rise p.time left
    ends_after : least_after p.time left ≤ end_at log.end
    reads : AllReadNext st.inputs st.piece p.before left
    has_answers : IsFrontOf (clock_values left) p.answers
    ends : EndsWithin st.steps log.end
    agrees : divergence_from log (end_at log.end + 1 - p.time) (moment_at p left) ≡ None

  -- nothing is left, and the log ends so
  record IsEnded (left : List CallRecord) (end : RunEnd) : Type 0 where
    none : left ≡ []
    end_is : log.end ≡ end

  -- the record of a call comes next
  record IsAnswered (p : Point) (left : List CallRecord) (k : CallKind) : Type 0 where
    others : List CallRecord
    left_is : left ≡ record_of st p k ∷ others
    rest : IsRest (after_answer p k (record_of st p k)) others

  -- how the rest goes on, by what the machine does
  abbrev GoesOnCalled : Point → List CallRecord → CallKind → Type 0
  GoesOnCalled p left kind.Exit = IsEnded left (Exit p.time (reg p.state 10))
  GoesOnCalled p left k = IsAnswered p left k

  abbrev GoesOn : Point → List CallRecord → Outcome → Type 0
  GoesOn p left (Retired s) = IsRest (after_step p s) left
  GoesOn p left (Called call) = GoesOnCalled p left call.kind
  GoesOn p left (Trapped k) = IsEnded left (Trap p.time k p.state.pc)

  -- ---- one step of a log

  -- nothing differs now, nor from the next moment on
  abbrev AgreesNow : Point → List CallRecord → Type 0
  AgreesNow p left = (difference log (moment_at p left) ≡ None) ×
      (divergence_from log (end_at log.end + 1 - (p.time + 1)) (advance (moment_at p left)) ≡ None)

  now_agrees : (p : Point) (left : List CallRecord) → IsRest p left → p.time ≤ end_at log.end → AgreesNow p left
  now_agrees p left rest below =
      let m = moment_at p left in
      let n : ℕ = end_at log.end + 1 - (p.time + 1) in
      let e : end_at log.end + 1 - p.time ≡ suc n = omega arith in
      let all : divergence_from log (suc n) m ≡ None = subst (λ (k : ℕ). divergence_from log k m ≡ None) e rest.agrees in
      (agrees_at log (suc n) 0 m all (omega arith), later_agrees log n m all)

  on_plain : (p : Point) (left : List CallRecord) → IsRest p left → AgreesNow p left → Rise (p.time + 1) left
      → least_after (p.time + 1) left ≤ end_at log.end → expected p.time left log.end ≡ PlainStep → GoesOn p left (next p.state)
  on_plain p left rest now rise last e =
      let m = moment_at p left in
      let plain = plain_agrees m log.inputs (agrees_with log m PlainStep e now.0) in
      subst (GoesOn p left) (sym plain.1) (record {
        channels = rest.channels;
        form = rest.form;
        rise = rise;
        ends_after = last;
        reads = rest.reads;
        has_answers = rest.has_answers;
        ends = rest.ends;
        agrees = subst (λ (x : Moment). divergence_from log (end_at log.end + 1 - (p.time + 1)) x ≡ None) (ap (after_outcome m) plain.1) now.1;
      })

  answered_goes : (p : Point) (left : List CallRecord) (r : CallRecord) → IsAnswered p left (kind_by r) → GoesOnCalled p left (kind_by r)
  answered_goes p left (Other at number) h = h
  answered_goes p left r h = h

  on_call : (p : Point) (r : CallRecord) (rs : List CallRecord) → IsRest p (r ∷ rs) → AgreesNow p (r ∷ rs) → at_of r ≡ p.time
      → expected p.time (r ∷ rs) log.end ≡ CallOf r → GoesOn p (r ∷ rs) (next p.state)
  on_call p r rs rest now at e =
      let m = moment_at p (r ∷ rs) in
      let call = call_agrees m log.inputs r (agrees_with log m (CallOf r) e now.0) in
      let lawful = subst (λ (n : ℕ). IsLawful p.state n r) rest.channels call.lawful in
      let here : IsHere st.inputs st.piece p.before p.time p.state r = record { time = at; form = rest.form.0; lawful = lawful; reads = rest.reads.0 } in
      let one : IsTheOne st.inputs st.piece p.answers p.before p.time p.state r rs =
      record_is st.inputs st.piece p.answers p.before p.time p.state r rs here rest.has_answers in
      let after : IsRest (after_answer p (kind_by r) r) rs = record {
        channels = rest.channels;
        form = rest.form.1;
        rise = subst (λ (x : ℕ). Rise (x + 1) rs) at rest.rise.1;
        ends_after = subst (λ (x : ℕ). least_after (x + 1) rs ≤ end_at log.end) at rest.ends_after;
        reads = rest.reads.1;
        has_answers = one.1;
        ends = rest.ends;
        agrees = subst (λ (x : Moment). divergence_from log (end_at log.end + 1 - (p.time + 1)) x ≡ None) (ap (after_outcome m) call.calls) now.1;
      } in
      let answered : IsAnswered p (r ∷ rs) (kind_by r) = record {
        others = rs;
        left_is = ap (λ (x : CallRecord). x ∷ rs) one.0;
        rest = subst (λ (x : CallRecord). IsRest (after_answer p (kind_by r) x) rs) one.0 after;
      } in
      subst (GoesOn p (r ∷ rs)) (sym call.calls) (subst (GoesOnCalled p (r ∷ rs)) (sym call.kind) (answered_goes p (r ∷ rs) r answered))

  on_end : (p : Point) (end : RunEnd) → log.end ≡ end → end_at end ≡ p.time → p.time < st.steps → EndsWithin st.steps end
      → difference_at (moment_at p []) log.inputs (EndOf end) ≡ None → GoesOn p [] (next p.state)
  on_end p (Exit at code) e here early ends d =
      let exit = exit_agrees (moment_at p []) log.inputs at code d in
      let agree = all_agree (compares (moment_at p []) log.inputs (EndOf (Exit at code))) d in
      let code_is : pos code ≡ pos (reg p.state 10) = agree.1.0 in
      let end_is : Exit at code ≡ Exit p.time (reg p.state 10) = cc in
      let ended : IsEnded [] (Exit p.time (reg p.state 10)) = record { none = refl; end_is = e ∙ end_is } in
      subst (GoesOn p []) (sym exit.1) (subst (GoesOnCalled p []) (sym exit.2) ended)
  on_end p (Trap at k pc) e here early ends d =
      let agree = all_agree (compares (moment_at p []) log.inputs (EndOf (Trap at k pc))) d in
      let kind_is : pos k ≡ pos (trap_kind (next p.state)) = agree.1.0 in
      let pc_is : pos pc ≡ pos p.state.pc = agree.1.1.0 in
      let end_is : Trap at k pc ≡ Trap p.time (trap_kind (next p.state)) p.state.pc = cc in
      subst (GoesOn p []) (sym (trap_agrees (moment_at p []) log.inputs at k pc d)) (record { none = refl; end_is = e ∙ end_is })
  on_end p (Limit at) e here early ends d = absurd (omega arith)

  goes_on : (p : Point) (left : List CallRecord) → p.time < st.steps → IsRest p left → GoesOn p left (next p.state)
  goes_on p [] early rest =
      let last = rest.ends_after in
      let now = now_agrees p [] rest last in
      elim (cases_lt p.time (end_at log.end)) [
        | inl before_end ↦ on_plain p [] rest now tt (omega arith) (expects_plain_at_end p.time log.end before_end)
        | inr late ↦ on_end p log.end refl (omega arith) early rest.ends
            (agrees_with log (moment_at p []) (EndOf log.end) (expects_end p.time log.end late) now.0)
      ]
  goes_on p (r ∷ rs) early rest =
      let reach = least_rises p.time (r ∷ rs) rest.rise in
      let last = rest.ends_after in
      let first = rest.rise.0 in
      let now = now_agrees p (r ∷ rs) rest (omega arith) in
      elim (cases_lt p.time (at_of r)) [
        | inl before_call ↦ on_plain p (r ∷ rs) rest now (omega arith, rest.rise.1) last (expects_plain_before p.time r rs log.end before_call)
        | inr due ↦ on_call p r rs rest now (omega arith) (expects_call p.time r rs log.end due)
      ]

-- once all steps are done, no record is left, and the run is cut off
cut_end : (steps : ℕ) (end : RunEnd) → steps ≤ end_at end → EndsWithin steps end → end ≡ Limit steps
cut_end steps (Limit at) late ends = ap Limit ends
cut_end steps end late ends = absurd (omega arith)

end_within : (steps : ℕ) (end : RunEnd) → EndsWithin steps end → end_at end ≤ steps
end_within steps (Limit at) ends = omega arith
end_within steps end ends = omega arith

cut_off : (st : Setting) (log : Log) (p : Point) (left : List CallRecord) → p.time ≡ st.steps → IsRest st log p left → IsEnded st log left (Limit st.steps)
cut_off st log p [] e rest = let last = rest.ends_after in record { none = refl; end_is = cut_end st.steps log.end (omega arith) rest.ends }
cut_off st log p (r ∷ rs) e rest =
    let first = rest.rise.0 in
    let reach = least_rises (at_of r + 1) rs rest.rise.1 in
    let last = rest.ends_after in
    let within = end_within st.steps log.end rest.ends in
    absurd (omega arith)

-- ---- the rests of two logs are one

record Same (a b : Log) (left rest : List CallRecord) : Type 0 where
  records : left ≡ rest
  end : a.end ≡ b.end

module _ (st : Setting) (a b : Log) where
  -- what holds of the rests k steps before all are done
  abbrev AreSame : ℕ → Type 0
  AreSame k = (p : Point) (left rest : List CallRecord) → p.time + k ≡ st.steps → IsRest st a p left → IsRest st b p rest → Same a b left rest

  same_ended : (left rest : List CallRecord) (end : RunEnd) → IsEnded st a left end → IsEnded st b rest end → Same a b left rest
  same_ended left rest end x y = record { records = x.none ∙ sym y.none; end = x.end_is ∙ sym y.end_is }

  same_answered : (k : ℕ) → AreSame k → (p : Point) (left rest : List CallRecord) (c : CallKind) → p.time + suc k ≡ st.steps
      → IsAnswered st a p left c → IsAnswered st b p rest c → Same a b left rest
  same_answered k later p left rest c e x y =
      let r = record_of st p c in
      let same = later (after_answer p c r) x.others y.others (omega arith) x.rest y.rest in
      record { records = x.left_is ∙ ap (λ (w : List CallRecord). r ∷ w) same.records ∙ sym y.left_is; end = same.end }

  same_called : (k : ℕ) → AreSame k → (p : Point) (left rest : List CallRecord) (c : CallKind) → p.time + suc k ≡ st.steps
      → GoesOnCalled st a p left c → GoesOnCalled st b p rest c → Same a b left rest
  same_called k later p left rest kind.Exit e x y = same_ended left rest (Exit p.time (reg p.state 10)) x y
  same_called k later p left rest c e x y = same_answered k later p left rest c e x y

  same_next : (k : ℕ) → AreSame k → (p : Point) (left rest : List CallRecord) (o : Outcome) → p.time + suc k ≡ st.steps
      → GoesOn st a p left o → GoesOn st b p rest o → Same a b left rest
  same_next k later p left rest (Retired s) e x y = later (after_step p s) left rest (omega arith) x y
  same_next k later p left rest (Called call) e x y = same_called k later p left rest call.kind e x y
  same_next k later p left rest (Trapped c) e x y = same_ended left rest (Trap p.time c p.state.pc) x y

  same_rest : (k : ℕ) → AreSame k
  same_rest zero p left rest e x y =
      same_ended left rest (Limit st.steps) (cut_off st a p left (omega arith) x) (cut_off st b p rest (omega arith) y)
  same_rest (suc k) p left rest e x y =
      same_next k (same_rest k) p left rest (next p.state) e (goes_on st a p left (omega arith) x) (goes_on st b p rest (omega arith) y)

-- ---- whole logs

whole_rest : (st : Setting) (front answers : List ℕ) (log : Log) (s : State) → IsFrontOf front answers → IsRecorded st front log
    → divergence s log ≡ None → IsRest st log (record { answers = answers; time = 0; state = s; before = [] }) log.records
whole_rest st front answers log s first is d =
    let n : end_at log.end + 1 ≡ end_at log.end + 1 - 0 = omega arith in
    record {
      channels = is.has_channels;
      form = is.is_log.records;
      rise = is.is_log.rise;
      ends_after = is.is_log.ends_after;
      reads = is.reads_inputs;
      has_answers = subst (λ (w : List ℕ). IsFrontOf w answers) (sym is.has_answers) first;
      ends = is.ends_within;
      agrees = subst (λ (k : ℕ). divergence_from log k (start s log) ≡ None) n d;
    }

abbrev log_of : ℕ → ℕ → List ℕ → List CallRecord → RunEnd → Log
log_of pages inputs digest records end = record { pages = pages; inputs = inputs; digest = digest; records = records; end = end }

log_is : (a b : Log) → a.pages ≡ b.pages → a.inputs ≡ b.inputs → a.digest ≡ b.digest → a.records ≡ b.records → a.end ≡ b.end → a ≡ b
log_is a b p i d r e =
    let same : log_of a.pages a.inputs a.digest a.records a.end ≡ log_of b.pages b.inputs b.digest b.records b.end = cc in same

-- two recordings with the first answers of one list
pub one_recording_of_fronts : (st : Setting) (xs ys answers : List ℕ) (a b : Log) → IsFrontOf xs answers
    → IsFrontOf ys answers → IsRecorded st xs a → IsRecorded st ys b → a ≡ b
one_recording_of_fronts st xs ys answers a b first_a first_b x y =
    let pages = x.has_pages ∙ sym y.has_pages in
    let channels = x.has_channels ∙ sym y.has_channels in
    let digest = x.fits.digest ∙ sym y.fits.digest in
    let begins : Some y.fits.start ≡ Some x.fits.start = sym y.fits.begins
    ∙ ap (start_in_image (image st.program)) (sym pages) ∙ x.fits.begins in
    let start_is = same_Some y.fits.start x.fits.start begins in
    let rest_a = whole_rest st xs answers a x.fits.start first_a x x.fits.agrees in
    let rest_b = whole_rest st ys answers b x.fits.start first_b y
    (subst (λ (s : State). divergence s b ≡ None) start_is y.fits.agrees) in
    let same = same_rest st a b st.steps _ a.records b.records (omega arith) rest_a rest_b in
    log_is a b pages channels digest same.records same.end

pub one_recording : (st : Setting) (answers : List ℕ) (a b : Log) → IsRecorded st answers a → IsRecorded st answers b
    → a ≡ b
one_recording st answers a b x y =
    let all : IsFrontOf answers answers = take_all (length answers) answers (omega arith) in
    one_recording_of_fronts st answers answers answers a b all all x y

-- the same where the clock answered 0 each time, however often
zeros_front : (n m : ℕ) → IsFrontOf (replicate n 0) (replicate (n + m) 0)
zeros_front n m =
    ap (take (length (replicate n 0))) (sym (replicate-append-replicate n m 0))
    ∙ take_at (replicate n 0) (replicate m 0) (length (replicate n 0)) refl

pub one_recording_by_zeros : (st : Setting) (n m : ℕ) (a b : Log) → IsRecorded st (replicate n 0) a
    → IsRecorded st (replicate m 0) b → a ≡ b
one_recording_by_zeros st n m a b x y =
    let whole : m + n ≡ n + m = omega arith in
    one_recording_of_fronts st (replicate n 0) (replicate m 0) (replicate (n + m) 0) a b (zeros_front n m)
    (subst (λ (k : ℕ). IsFrontOf (replicate m 0) (replicate k 0)) whole (zeros_front m n)) x y
