-- The ranges of a call that was answered.
use Rattle.std.proofs.Common.{◌≡◌, ℕ, ◌+◌, ◌^◌, ◌<◌, ◌≤◌, Bool, List, [], ◌∷◌, length, drop, get_or, Some, refl, arith, ap, sym, ◌∙◌, subst}
use Rattle.std.specs.Prelude.{if◌then◌else◌}
use Rattle.std.proofs.lemmas.Bool.{ne_eqb}
use Rattle.isa.specs.Machine.{State, reg}
use Rattle.isa.specs.Calls.{buffer_of}
use Rattle.isa.specs.declared.CallKind.{CallKind}
use Rattle.isa.specs.declared.CallKind.TheVariants as kind
use Rattle.log_model.specs.declared.CallRecord.{CallRecord}
use Rattle.log_model.specs.declared.CallRecord.TheVariants.{Read, Write, Clock, Other}
use Rattle.log_model.specs.Logs.{Log}
use Rattle.log_model.specs.Moved.{received, written}
use Rattle.flow_model.specs.declared.CallSeen.{CallSeen}
use Rattle.flow_model.specs.Ranges.{IsTransferInRange, IsCallInRange}
use Rattle.replay_model.specs.Run.{transfer, call_seen}
use Rattle.replay_model.proofs.Transfers.{window_end}
use Rattle.rv_machine.specs.Hart.{Hart}
use Rattle.replay_run.specs.Runs.{RunAt, CanMove, IsDue}
use Rattle.replay_run.specs.Counters.{run_at, IsCounted}
use Rattle.replay_run.proofs.Counting.{front_of, read_room, write_room}

transfer_ranges : (k : CallKind) (channels : ℕ) (args before : List ℕ) (n : ℕ) (s : State) (bytes : List ℕ) → n ≡ length bytes → s.base + length s.memory ≤ 2 ^ 32 → buffer_of args ≡ reg s 11 → (0 < n → CanMove s channels args bytes) → channels ≤ 16 → (0 < n → length before + n ≤ 2 ^ 27) → 0 < n → IsTransferInRange (transfer k args before n)
transfer_ranges k channels args before n s bytes e window buffer can most room some =
    let moves = can some in
    let fits = room some in
    let offset : (transfer k args before n).offset ≡ length before = ap (λ (b : Bool). if b then 0 else length before) (ne_eqb n 0 (λ z. omega arith)) in
    let end = window_end s (reg s 11) (length bytes) moves.inside in
    let channel = moves.channel in
    record { channel = omega arith; offsets = omega arith; places = omega arith }

module _ (log : Log) (time index : ℕ) (hart : Hart) (read write : List ℕ) (counted : IsCounted log time index read write) (window : hart.state.base + length hart.state.memory ≤ 2 ^ 32) where
  abbrev here : RunAt
  here = run_at log time hart index

  ranges_by : (left : List CallRecord) → left ≡ drop index log.records → IsDue log.inputs here.moment left → 0 < (call_seen here.moment left).length → IsTransferInRange (call_seen here.moment left)
  ranges_by [] e due some = absurd (omega arith)
  ranges_by (Read at args result bytes ∷ rs) e due some =
      let front = front_of log.records (Read at args result bytes ∷ rs) index (Read at args result bytes) e (omega arith) refl in
      let channel = get_or args 0 0 in
      transfer_ranges kind.Read log.inputs args (received channel here.moment.done) (length bytes) hart.state bytes refl window due.1.1 due.1.2 counted.form.inputs
      (λ h. let few = (due.1.2 h).channel in omega (arith, read_room log time index read write counted at args result bytes front few, counted.reads.each channel (omega (arith, few, counted.form.inputs))))
      some
  ranges_by (Write at args result bytes ∷ rs) e due some =
      let front = front_of log.records (Write at args result bytes ∷ rs) index (Write at args result bytes) e (omega arith) refl in
      let channel = get_or args 0 0 in
      transfer_ranges kind.Write 16 args (written channel here.moment.done) (length bytes) hart.state bytes refl window due.1.1 due.1.2 (omega arith)
      (λ h. let few = (due.1.2 h).channel in omega (arith, write_room log time index read write counted at args result bytes front few, counted.writes.each channel few))
      some
  ranges_by (Clock at value ∷ rs) e due some = absurd (omega arith)
  ranges_by (Other at number ∷ rs) e due some = absurd (omega arith)

  -- the call that was due has the ranges of a call
  pub call_ranges : (view : RunAt) (call : CallSeen) → here ≡ view → IsDue view.log.inputs view.moment view.moment.left → call ≡ call_seen view.moment view.moment.left → IsCallInRange (Some call)
  call_ranges view call v due seen some =
      let now : IsDue log.inputs here.moment here.moment.left = subst (λ (r : RunAt). IsDue r.log.inputs r.moment r.moment.left) (sym v) due in
      let same : call ≡ call_seen here.moment here.moment.left = seen ∙ ap (λ (r : RunAt). call_seen r.moment r.moment.left) (sym v) in
      subst IsTransferInRange (sym same) (ranges_by (drop index log.records) refl now (subst (λ (x : CallSeen). 0 < x.length) same some))
