-- Plain steps that are made in a row while a log is checked.
use Rattle.std.proofs.Common.{◌≡◌, ℕ, zero, suc, ◌+◌, ◌^◌, ◌<◌, ◌≤◌, Bool, false, refl, arith, ap, sym, ◌∙◌, subst}
use Rattle.isa.specs.declared.Instr.{Instr}
use Rattle.isa.specs.Machine.{State, place_of}
use Rattle.log_model.specs.Logs.{steps}
use Rattle.rv_machine.specs.Hart.{running, IsPlainStep}
use Rattle.rv_machine.specs.Running.{Tells, Wants, IsFollowed, Begun, Then}
use Rattle.rv_machine.specs.declared.Stepped.TheVariants.{Plain}
use Rattle.replay_run.specs.Expects.{event_time}
use Rattle.replay_run.specs.Runs.{RunAt, with_hart, later_by_one, gone_on, IsUnderLog}
use Rattle.replay_run.proofs.Steps.{are_later, under_later}
use Rattle.replayer.specs.CheckedSteps.{Advances, TookNoRecord}
use Rattle.replayer.specs.Jobs.{Job}
use Rattle.replayer.specs.Cursors.{Stands}
use Rattle.replayer.specs.Nexts.{seen_at}
use Rattle.replayer.specs.Watching.{Seen, IsEnough, ArePassed}
use Rattle.replayer.proofs.Passing.{plain_before}
use Rattle.replayer.proofs.PlainSteps.{plain_advances}
use Rattle.replayer.proofs.Standing.{stands_later}
use Rattle.replayer.proofs.Stepping.{plain_finished}
use Rattle.replayer.proofs.Watching.{moved, made_of, some_passed}

module _ {W : Type 0} (told : Tells W) (wants : Wants W) (seen : Seen W) (quiet : W → ℕ) (enough : IsEnough told seen quiet) (run : RunAt) (under : IsUnderLog run) (goes_on : run.waits ≡ false)
    (until : ℕ) (small : until < 2 ^ 64) (event : until ≤ event_time run.moment.left run.log.end) (old : W) (begins : until ≤ quiet old) where
  -- n steps lead to a state, and if the watcher had seen the steps before, it has seen these too, and is quiet until then
  record IsInRow (n : ℕ) (s : State) (w : W) : Type 0 where
    steps_made : Advances n run (gone_on run n s)
    told_of : (was : W) (job : Job) → Stands job run → run.moment.time + n ≤ steps job.log → seen was old job run.moment.time → (seen was w job (run.moment.time + n)) × (until ≤ quiet w)

  none : IsInRow zero run.moment.state old
  none =
      let same : run.moment.time + 0 ≡ run.moment.time = omega arith in
      record {
        steps_made = ap (λ (t : ℕ). record { log = run.log; moment = record (run.moment) { time = t }; waits = false }) same
            ∙ ap (λ (b : Bool). record { log = run.log; moment = run.moment; waits = b }) (sym goes_on);
        told_of = λ was job stands within before. (subst (seen was old job) (sym same) before, begins);
      }

  one_more : (n : ℕ) (s : State) (w : W) (instr : Instr) (after : State) (next : W) → run.moment.time + suc n ≤ until → IsInRow n s w → IsPlainStep s instr (place_of s instr) (running after) → told w instr (place_of s instr) next → IsInRow (suc n) after next
  one_more n s w instr after next h so_far made does =
      let place = place_of s instr in
      let here = gone_on run n s in
      let there = gone_on run (suc n) after in
      let t = run.moment.time + n in
      let later : run.moment.time + suc n ≡ t + 1 = omega arith in
      let counted : there ≡ later_by_one (with_hart here (running after)) = ap (λ (k : ℕ). record { log = run.log; moment = record (run.moment) { time = k; state = after }; waits = false }) later in
      let below : t < event_time run.moment.left run.log.end = omega arith in
      let free = are_later run.moment.time n run.moment.left run.log.end (omega arith) in
      let plain = plain_before t run.moment.left run.log.end below in
      record {
        steps_made = (here, so_far.steps_made, plain_advances here there (running after) instr place (under_later run n n s under free (omega arith)) plain made counted);
        told_of = λ was job stands within before.
            let first = so_far.told_of was job stands (omega arith) before in
            let stood = stands_later job run stands n here (moved n run here so_far.steps_made) (omega arith) in
            let finished = plain_finished here there (running after) instr place t refl counted in
            let step = seen_at t (record { instr = instr; place = place }) in
            let of_job = made_of job here there (Plain instr place) (running after) step stood (omega arith) made finished refl in
            let second = enough w instr place next does was job until t there small first.1 (omega arith) made.fits of_job first.0 in
            (subst (seen was next job) (sym later) second.0, second.1);
      }

  in_row : {n : ℕ} {s : State} {w : W} → IsFollowed told wants run.moment.state old n s w → run.moment.time + n ≤ until → IsInRow n s w
  in_row Begun h = none
  in_row (Then n s w instr after next so_far wanted made does) h = one_more n s w instr after next h (in_row so_far (omega arith)) made does

  -- what the machine made in a row, the log has so, and the watcher was told of it
  pub row_passed : (n : ℕ) (after : RunAt) (new : W) → IsFollowed told wants run.moment.state old n after.moment.state new → run.moment.time + n ≤ until → after ≡ gone_on run n after.moment.state → ArePassed seen run old after new
  row_passed n after new followed h e =
      let row = in_row followed h in
      some_passed seen n run after old new (subst (Advances n run) (sym e) row.steps_made) (λ was job stands within before. (row.told_of was job stands within before).0)

-- it took no record
pub row_still : (run after : RunAt) (n : ℕ) → after ≡ gone_on run n after.moment.state → TookNoRecord run after
row_still run after n e =
    let time : after.moment.time ≡ run.moment.time + n = ap (λ (r : RunAt). r.moment.time) e in
    record {
      same_log = ap (λ (r : RunAt). r.log) e;
      left = ap (λ (r : RunAt). r.moment.left) e;
      goes_on = ap (λ (r : RunAt). r.waits) e;
      later = omega arith;
    }
