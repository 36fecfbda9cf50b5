-- A watcher that is told of one step after another.
use Rattle.std.proofs.Common.{◌≡◌, ℕ, zero, suc, ◌+◌, ◌-◌, ◌<◌, refl, Some, arith, ap, sym, ◌∙◌, subst}
use Rattle.log_model.specs.Logs.{steps}
use Rattle.flow_model.specs.declared.StepSeen.{StepSeen}
use Rattle.flow_model.specs.Origins.{step_at}
use Rattle.replay_model.specs.Run.{Moment, advance}
use Rattle.replay_model.proofs.Track.{step_time}
use Rattle.replay_model.proofs.Offsets.{moment_later}
use Rattle.rv_machine.specs.Hart.{Hart, IsStep}
use Rattle.rv_machine.specs.declared.Stepped.{Stepped}
use Rattle.replay_run.specs.Runs.{RunAt, IsFinished}
use Rattle.replay_run.proofs.Steps.{done, numbered}
use Rattle.replayer.specs.CheckedSteps.{IsAdvanced, Advances}
use Rattle.replayer.specs.Jobs.{Job, trace_of}
use Rattle.replayer.specs.Cursors.{Stands}
use Rattle.replayer.specs.Watching.{Seen, IsMadeOf, IsToldOf, IsTold, ArePassed}
use Rattle.replayer.proofs.Passing.{passed_then}
use Rattle.replayer.proofs.Standing.{IsMoved, moved_by_one, stands_later, step_here}

-- ---- where a run stands after some steps of a check

pub moved : (n : ℕ) (before after : RunAt) → Advances n before after → IsMoved before n after
moved zero before after e =
    let same : before.moment.time ≡ before.moment.time + 0 = omega arith in
    record { same_log = ap (λ (r : RunAt). r.log) e; moment = ap (λ (r : RunAt). r.moment) e; time = ap (λ (r : RunAt). r.moment.time) e ∙ same }
moved (suc n) before after (between, so_far, made) =
    let there = moved n before between so_far in
    let time = there.time in
    let next = step_time between.log between.moment made.early made.agrees in
    let moment : after.moment ≡ advance between.moment = ap (λ (r : RunAt). r.moment) made.moved in
    let later : (advance between.moment).time ≡ before.moment.time + suc n = omega arith in
    record {
      same_log = ap (λ (r : RunAt). r.log) made.moved ∙ there.same_log;
      moment = moment ∙ ap advance there.moment ∙ sym (moment_later n before.moment);
      time = ap (λ (m : Moment). m.time) moment ∙ later;
    }

-- a step that is finished is one of each job at whose run it stands
pub made_of : (job : Job) (run after : RunAt) (stepped : Stepped) (hart : Hart) (s : StepSeen) → Stands job run → run.moment.time < steps job.log → IsStep run.moment.state stepped hart
    → IsFinished (record (run.moment) { state = hart.state }) stepped s after.moment → after.log ≡ run.log → IsMadeOf job s after
made_of job run after stepped hart s stands below made f same_log =
    let finished = numbered (record (run.moment) { state = hart.state }) stepped s after.moment f in
    let number : s.number ≡ run.moment.time = finished.number in
    let time : after.moment.time ≡ run.moment.time + 1 = finished.time in
    record {
      step = ap (step_at (trace_of job)) number ∙ step_here job run stands below ∙ ap (λ (x : StepSeen). Some x) (sym (done run.moment stepped hart s after.moment made f).step);
      stands = stands_later job run stands (suc zero) after (moved_by_one run after stepped hart s made f same_log) (omega arith);
      time = omega arith;
    }

-- ---- what is told

module _ {W : Type 0} (seen : Seen W) where
  -- one step, when it was finished
  pub told_one : (run after : RunAt) (stepped : Stepped) (hart : Hart) (s : StepSeen) (old new : W) → IsStep run.moment.state stepped hart → IsFinished (record (run.moment) { state = hart.state }) stepped s after.moment → after.log ≡ run.log
      → IsToldOf seen s after old new → IsTold seen run 1 old new
  told_one run after stepped hart s old new made f same_log told was job stands within before =
      let below : run.moment.time < steps job.log = omega arith in
      let number : s.number ≡ run.moment.time = (numbered (record (run.moment) { state = hart.state }) stepped s after.moment f).number in
      let here = made_of job run after stepped hart s stands below made f same_log in
      subst (λ (t : ℕ). seen was new job (t + 1)) number (told was job here (subst (seen was old job) (sym number) before))

  -- none is told
  pub told_none : (run : RunAt) (n : ℕ) (w : W) → n ≡ 0 → IsTold seen run n w w
  told_none run n w none was job stands within before = let same : run.moment.time ≡ run.moment.time + n = omega arith in subst (seen was w job) same before

  -- some steps, and then more
  pub told_then : (before between : RunAt) (n m : ℕ) (old so_far new : W) → IsMoved before n between → IsTold seen before n old so_far → IsTold seen between m so_far new → IsTold seen before (n + m) old new
  told_then before between n m old so_far new there first second was job stands within begun =
      let time = there.time in
      let now : before.moment.time + n ≡ between.moment.time = omega arith in
      let later : between.moment.time + m ≡ before.moment.time + (n + m) = omega arith in
      let here = subst (seen was so_far job) now (first was job stands (omega arith) begun) in
      subst (seen was new job) later (second was job (stands_later job before stands n between there (omega arith)) (omega arith) here)

  -- ---- steps that are passed

  pub none_passed : (run : RunAt) (w : W) → ArePassed seen run w run w
  none_passed run w =
      let none : run.moment.time - run.moment.time ≡ 0 = omega arith in
      record { passed = record { count = 0; steps = refl }; told = told_none run (run.moment.time - run.moment.time) w none }

  pub some_passed : (n : ℕ) (before after : RunAt) (old new : W) → Advances n before after → IsTold seen before n old new → ArePassed seen before old after new
  some_passed n before after old new steps told =
      let time = (moved n before after steps).time in
      let count : n ≡ after.moment.time - before.moment.time = omega arith in
      record { passed = record { count = n; steps = steps }; told = subst (λ (k : ℕ). IsTold seen before k old new) count told }

  pub one_passed : (before after : RunAt) (old new : W) → IsAdvanced before after → IsTold seen before 1 old new → ArePassed seen before old after new
  one_passed before after old new made told = some_passed (suc zero) before after old new (before, refl, made) told

  pub watched_then : (before between after : RunAt) (old so_far new : W) → ArePassed seen before old between so_far → ArePassed seen between so_far after new → ArePassed seen before old after new
  watched_then before between after old so_far new first second =
      let there = moved first.passed.count before between first.passed.steps in
      let next = moved second.passed.count between after second.passed.steps in
      let time = there.time in
      let later = next.time in
      let n : between.moment.time - before.moment.time ≡ first.passed.count = omega arith in
      let m : after.moment.time - between.moment.time ≡ second.passed.count = omega arith in
      let all : first.passed.count + second.passed.count ≡ after.moment.time - before.moment.time = omega arith in
      record {
        passed = passed_then before between after first.passed second.passed;
        told = subst (λ (k : ℕ). IsTold seen before k old new) all
            (told_then before between first.passed.count second.passed.count old so_far new there
            (subst (λ (k : ℕ). IsTold seen before k old so_far) n first.told) (subst (λ (k : ℕ). IsTold seen between k so_far new) m second.told));
      }
