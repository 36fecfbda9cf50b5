-- The call that waits is answered by the first record that is left.
use Rattle.std.proofs.Common.{◌≡◌, ℕ, ◌+◌, ◌≤◌, false, List, [], ◌∷◌, ◌++◌, length, take, drop, get_or, ap, sym, ◌∙◌, subst}
use Rattle.isa.specs.Machine.{State}
use Rattle.log_model.specs.declared.CallRecord.{CallRecord}
use Rattle.log_model.specs.Logs.{Log, at_of}
use Rattle.replay_model.specs.Run.{Moment, state_after, after_call}
use Rattle.rv_machine.specs.Hart.{Hart, running}
use Rattle.replay_run.specs.Runs.{RunAt, Answers, IsDue}
use Rattle.replay_run.specs.Counters.{run_at}
use Rattle.replay_run.proofs.Counting.{IsFront, front_of}

-- this record is the first that is left, it is of now, and it answers the call that waits
pub record IsAnswering (log : Log) (time index : ℕ) (s : State) (r : CallRecord) : Type 0 where
  pub front : IsFront log.records index r
  pub now : at_of r ≡ time
  pub answers : Answers log.inputs s r

module _ (log : Log) (time index : ℕ) (hart : Hart) (view : RunAt) (view_is : run_at log time hart index ≡ view) where
  pub answering : (left : List CallRecord) (r : CallRecord) → IsDue view.log.inputs view.moment view.moment.left → left ≡ view.moment.left → 1 ≤ length left → r ≡ get_or left 0 r → (q : CallRecord) → r ≡ q → IsAnswering log time index hart.state q
  answering left r due e some item q same =
      let there : left ≡ drop index log.records = e ∙ sym (ap (λ (v : RunAt). v.moment.left) view_is) in
      let front = subst (IsFront log.records index) same (front_of log.records left index r there some item) in
      let here : IsDue log.inputs (run_at log time hart index).moment (drop index log.records) = subst (λ (v : RunAt). IsDue v.log.inputs v.moment v.moment.left) (sym view_is) due in
      let both : IsDue log.inputs (run_at log time hart index).moment (q ∷ drop (index + 1) log.records) = subst (IsDue log.inputs (run_at log time hart index).moment) front.left here in
      record { front = front; now = both.0; answers = both.1 }

  -- the run after the answer
  pub answered_is : (r : CallRecord) (after : Hart) → IsFront log.records index r → after ≡ running (state_after hart.state r)
      → run_at log (time + 1) after (index + 1) ≡ record { log = view.log; moment = after_call view.moment view.moment.left; waits = false }
  answered_is r after front e =
      let m = (run_at log time hart index).moment in
      let done : take (index + 1) log.records ≡ m.done ++ r ∷ [] = front.taken in
      let left : drop (index + 1) log.records ≡ drop 1 m.left = ap (λ (rs : List CallRecord). drop 1 rs) (sym front.left) in
      let make : List CallRecord → List CallRecord → Moment = λ d l. record { time = time + 1; state = state_after hart.state r; done = d; left = l } in
      ap (λ (h : Hart). run_at log (time + 1) h (index + 1)) e
      ∙ ap (λ (d : List CallRecord). record { log = log; moment = make d (drop (index + 1) log.records); waits = false }) done
      ∙ ap (λ (l : List CallRecord). record { log = log; moment = make (m.done ++ r ∷ []) l; waits = false }) left
      ∙ ap (λ (rs : List CallRecord). record { log = log; moment = after_call m rs; waits = false }) (sym front.left)
      ∙ ap (λ (v : RunAt). record { log = v.log; moment = after_call v.moment v.moment.left; waits = false }) view_is
