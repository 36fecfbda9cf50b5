-- A cursor is led by plain steps in a row.
use Rattle.std.proofs.Common.{◌≡◌, ℕ, zero, suc, ◌+◌, ◌<◌, ◌≤◌, ◌⊎◌, inl, inr, Bool, false, refl, arith, ap, sym, ◌∙◌, subst}
use Rattle.std.specs.Prelude.{max}
use Rattle.std.proofs.lemmas.Bool.{cases_lt}
use Rattle.isa.specs.declared.Instr.{Instr}
use Rattle.isa.specs.Machine.{State, place_of}
use Rattle.rv_machine.specs.Hart.{running, IsPlainStep}
use Rattle.rv_machine.specs.Running.{Tells, Wants, IsFollowed, Begun, Then}
use Rattle.replay_model.specs.Run.{Moment}
use Rattle.replay_run.specs.Expects.{event_time}
use Rattle.replay_run.specs.Runs.{RunAt, with_hart, later_by_one, gone_on, IsUnderLog}
use Rattle.replayer.specs.Jobs.{Job}
use Rattle.replayer.specs.Cursors.{IsCursor}
use Rattle.replayer.specs.Nexts.{ArePlain}
use Rattle.replayer.specs.Told.{AreTold, NoneYet, OneMore}
use Rattle.replayer.proofs.Stepping.{plain_made}
use Rattle.replayer.proofs.Stretches.{plain_until}

-- where each step up to a time is a plain one, the log has nothing else before it
pub plain_within : (job : Job) (run : RunAt) → IsCursor job run → IsUnderLog run → (until : ℕ) → ArePlain job run.moment.time until → run.moment.time < until → until ≤ event_time run.moment.left job.log.end
plain_within job run cursor under until plain some = by (cases_lt last until)
  where
    last : ℕ
    last = max (event_time run.moment.left job.log.end) run.moment.time

    by : (last < until) ⊎ (until ≤ last) → until ≤ event_time run.moment.left job.log.end
    by (inl short) = absurd ((plain_until job run cursor under last refl).no_longer (plain last (omega arith) short))
    by (inr within) = omega arith

module _ {W : Type 0} (told : Tells W) (wants : Wants W) (job : Job) (run : RunAt) (cursor : IsCursor job run) (until : ℕ) (plain : ArePlain job run.moment.time until) (old : W) where
  -- n steps lead the cursor to a state, and the follower was told of each
  record IsLed (n : ℕ) (s : State) (w : W) : Type 0 where
    here : IsCursor job (gone_on run n s)
    told_of : AreTold told wants job run.moment.time old (run.moment.time + n) w

  none : IsLed zero run.moment.state old
  none =
      let same : run.moment.time ≡ run.moment.time + 0 = omega arith in
      record {
        here = subst (IsCursor job) (ap (λ (t : ℕ). record { log = run.log; moment = record (run.moment) { time = t }; waits = run.waits }) same
            ∙ ap (λ (b : Bool). record { log = run.log; moment = record (run.moment) { time = run.moment.time + 0 }; waits = b }) cursor.goes_on) cursor;
        told_of = subst (λ (t : ℕ). AreTold told wants job run.moment.time old t old) same NoneYet;
      }

  one_more : (n : ℕ) (s : State) (w : W) (instr : Instr) (after : State) (next : W) → run.moment.time + suc n ≤ until → IsLed n s w → wants w s.pc → IsPlainStep s instr (place_of s instr) (running after) → told w instr (place_of s instr) next → IsLed (suc n) after next
  one_more n s w instr after next h so_far wanted made does =
      let place = place_of s instr in
      let here = gone_on run n s in
      let there = gone_on run (suc n) after in
      let t = run.moment.time + n in
      let later : run.moment.time + suc n ≡ t + 1 = omega arith in
      let more : suc t ≡ run.moment.time + suc n = omega arith in
      let counted : there ≡ later_by_one (with_hart here (running after)) = ap (λ (k : ℕ). record { log = run.log; moment = record (run.moment) { time = k; state = after }; waits = false }) later in
      let below = (plain t (omega arith) (omega arith)).below in
      let one = plain_made job here there (running after) instr place t so_far.here below made refl counted in
      record {
        here = one.cursor;
        told_of = subst (λ (k : ℕ). AreTold told wants job run.moment.time old k next) more (OneMore t w (record { instr = instr; place = place }) next so_far.told_of (subst (wants w) (ap (λ (m : Moment). m.state.pc) so_far.here.stands.here) wanted) made.fits one.step.step does);
      }

  led : {n : ℕ} {s : State} {w : W} → IsFollowed told wants run.moment.state old n s w → run.moment.time + n ≤ until → IsLed n s w
  led Begun h = none
  led (Then n s w instr after next so_far wanted made does) h = one_more n s w instr after next h (led so_far (omega arith)) wanted made does

  -- the cursor stands after the steps that the machine made, and the follower was told of each
  pub record IsToldTo (after : RunAt) (new : W) : Type 0 where
    pub there : IsCursor job after
    pub told_of : AreTold told wants job run.moment.time old after.moment.time new

  pub told_to : (n : ℕ) (after : RunAt) (new : W) → IsFollowed told wants run.moment.state old n after.moment.state new → run.moment.time + n ≤ until → after ≡ gone_on run n after.moment.state → IsToldTo after new
  told_to n after new followed h e =
      let so_far = led followed h in
      record {
        there = subst (IsCursor job) (sym e) so_far.here;
        told_of = subst (λ (t : ℕ). AreTold told wants job run.moment.time old t new) (sym (ap (λ (r : RunAt). r.moment.time) e)) so_far.told_of;
      }
