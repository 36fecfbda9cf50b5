-- Where a job's run stands some steps later.
use Rattle.std.proofs.Common.{◌≡◌, ℕ, zero, suc, ◌+◌, ◌<◌, ◌≤◌, Some, arith, ap, sym, ◌∙◌}
use Rattle.log_model.specs.Logs.{steps}
use Rattle.flow_model.specs.declared.StepSeen.{StepSeen}
use Rattle.flow_model.specs.Origins.{step_at}
use Rattle.replay_model.specs.Run.{Moment, start, advance, moment_after, step_of}
use Rattle.replay_model.proofs.Offsets.{step_at_from}
use Rattle.rv_machine.specs.Hart.{Hart, IsStep}
use Rattle.rv_machine.specs.declared.Stepped.{Stepped}
use Rattle.replay_run.specs.Runs.{RunAt, IsFinished}
use Rattle.replay_run.proofs.Steps.{done, numbered}
use Rattle.replayer.specs.Jobs.{Job, trace_of}
use Rattle.replayer.specs.Cursors.{Stands}

pub record IsMoved (before : RunAt) (n : ℕ) (after : RunAt) : Type 0 where
  pub same_log : after.log ≡ before.log
  pub moment : after.moment ≡ moment_after n before.moment
  pub time : after.moment.time ≡ before.moment.time + n

-- by one, where a step is finished
pub moved_by_one : (run after : RunAt) (stepped : Stepped) (hart : Hart) (s : StepSeen) → IsStep run.moment.state stepped hart → IsFinished (record (run.moment) { state = hart.state }) stepped s after.moment → after.log ≡ run.log → IsMoved run (suc zero) after
moved_by_one run after stepped hart s made f same_log = record {
  same_log = same_log;
  moment = (done run.moment stepped hart s after.moment made f).moved;
  time = (numbered (record (run.moment) { state = hart.state }) stepped s after.moment f).time;
}

moments : (i k : ℕ) (m : Moment) → moment_after (i + k) m ≡ moment_after k (moment_after i m)
moments zero k m = let same : 0 + k ≡ k = omega arith in ap (λ (n : ℕ). moment_after n m) same
moments (suc i) k m = let same : suc i + k ≡ suc (i + k) = omega arith in ap (λ (n : ℕ). moment_after n m) same ∙ moments i k (advance m)

module _ (job : Job) (run : RunAt) (stands : Stands job run) where
  pub stands_later : (n : ℕ) (after : RunAt) → IsMoved run n after → run.moment.time + n ≤ steps job.log → Stands job after
  stands_later n after moved within =
      let first = start job.start job.log in
      let time = moved.time in
      record {
        same_log = moved.same_log ∙ stands.same_log;
        within = omega arith;
        here = moved.moment ∙ ap (moment_after n) stands.here ∙ sym (moments run.moment.time n first) ∙ ap (λ (k : ℕ). moment_after k first) (sym time);
      }

  -- the step that it makes there
  pub step_here : run.moment.time < steps job.log → step_at (trace_of job) run.moment.time ≡ Some (step_of run.moment)
  step_here below = step_at_from (steps job.log) run.moment.time (start job.start job.log) below ∙ ap (λ (m : Moment). Some (step_of m)) (sym stands.here)
