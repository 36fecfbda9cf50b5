-- The step that a job's run makes at a time, and the moment after it.
use Rattle.std.proofs.Common.{◌≡◌, ℕ, zero, suc, ◌+◌, ◌<◌, false, Some, None, arith, ap, ap₂, sym, ◌∙◌}
use Rattle.log_model.specs.Logs.{end_at, steps}
use Rattle.flow_model.specs.declared.StepSeen.{StepSeen}
use Rattle.flow_model.specs.Origins.{step_at}
use Rattle.replay_model.specs.Run.{start}
use Rattle.replay_model.specs.Comparison.{difference}
use Rattle.replay_model.proofs.Agreement.{agrees_at}
use Rattle.replay_model.proofs.Offsets.{steps_within}
use Rattle.rv_machine.specs.Hart.{Hart, IsPlainStep, IsStep}
use Rattle.isa.specs.declared.Instr.{Instr}
use Rattle.rv_machine.specs.declared.Stepped.{Stepped}
use Rattle.rv_machine.specs.declared.Stepped.TheVariants.{Plain}
use Rattle.replay_run.specs.Runs.{RunAt, with_hart, later_by_one, IsUnderLog, IsReady, IsFinished}
use Rattle.replay_run.proofs.Steps.{ready, done}
use Rattle.replayer.specs.Jobs.{Job, trace_of}
use Rattle.replayer.specs.Cursors.{IsCursor}
use Rattle.replayer.specs.Nexts.{IsStepAt}
use Rattle.replayer.proofs.Standing.{moved_by_one, stands_later, step_here}

-- at a cursor nothing differs
pub cursor_agrees : (job : Job) (run : RunAt) → IsCursor job run → run.moment.time < steps job.log → difference run.log run.moment ≡ None
cursor_agrees job run cursor below =
    let last = steps_within job.log.end in
    ap₂ difference cursor.stands.same_log cursor.stands.here ∙ agrees_at job.log (end_at job.log.end + 1) run.moment.time (start job.start job.log) cursor.is_job.agrees (omega arith)

-- the step that the machine makes there can be finished
pub cursor_ready : (job : Job) (run : RunAt) → IsCursor job run → IsUnderLog run → run.moment.time < steps job.log → (stepped : Stepped) (hart : Hart) → IsStep run.moment.state stepped hart → IsReady (with_hart run hart) stepped
cursor_ready job run cursor under below stepped hart made =
    let same : steps run.log ≡ steps job.log = ap steps cursor.stands.same_log in
    ready run stepped hart under (omega arith) (cursor_agrees job run cursor below) made

-- a plain step that was counted is finished
pub plain_finished : (run after : RunAt) (hart : Hart) (instr : Instr) (place number : ℕ) → number ≡ run.moment.time → after ≡ later_by_one (with_hart run hart) → IsFinished (record (run.moment) { state = hart.state }) (Plain instr place) (record { number = number; instr = instr; place = place; call = None }) after.moment
plain_finished run after hart instr place number n e =
    (ap (λ (t : ℕ). record { number = t; instr = instr; place = place; call = None }) n, ap (λ (r : RunAt). r.moment) e)

module _ (job : Job) (run : RunAt) (cursor : IsCursor job run) (below : run.moment.time < steps job.log) (stepped : Stepped) (hart : Hart) (made : IsStep run.moment.state stepped hart) where
  -- the run stands one step later
  pub cursor_moves : (after : RunAt) (s : StepSeen) → IsFinished (record (run.moment) { state = hart.state }) stepped s after.moment → after.log ≡ run.log → after.waits ≡ false → IsCursor job after
  cursor_moves after s f same_log goes_on =
      record {
        is_job = cursor.is_job;
        stands = stands_later job run cursor.stands (suc zero) after (moved_by_one run after stepped hart s made f same_log) (omega arith);
        goes_on = goes_on;
      }

  -- the step is that of the trace
  pub cursor_step : (after : RunAt) (s : StepSeen) → IsFinished (record (run.moment) { state = hart.state }) stepped s after.moment → step_at (trace_of job) run.moment.time ≡ Some s
  cursor_step after s f =
      step_here job run cursor.stands below ∙ ap (λ (x : StepSeen). Some x) (sym (done run.moment stepped hart s after.moment made f).step)

-- ---- a plain step

-- the step that the machine made is counted: the cursor has moved on by it
pub record IsMade (job : Job) (run after : RunAt) (s : StepSeen) : Type 0 where
  pub cursor : IsCursor job after
  pub step : IsStepAt (record { job = job; time = run.moment.time }) s (record { job = job; time = after.moment.time })

pub plain_made : (job : Job) (run after : RunAt) (hart : Hart) (instr : Instr) (place number : ℕ) → IsCursor job run → run.moment.time < steps job.log → IsPlainStep run.moment.state instr place hart
    → number ≡ run.moment.time → after ≡ later_by_one (with_hart run hart) → IsMade job run after (record { number = number; instr = instr; place = place; call = None })
plain_made job run after hart instr place number cursor below made n e =
    let s : StepSeen = record { number = number; instr = instr; place = place; call = None } in
    let finished = plain_finished run after hart instr place number n e in
    record {
      cursor = cursor_moves job run cursor below (Plain instr place) hart made after s finished (ap (λ (r : RunAt). r.log) e) (ap (λ (r : RunAt). r.waits) e ∙ made.goes_on);
      step = record {
        below = below;
        step = cursor_step job run cursor below (Plain instr place) hart made after s finished;
        number = n;
        moved = ap (λ (r : RunAt). record { job = job; time = r.moment.time }) e;
        in_range = record { fits = made.fits; call = tt };
      };
    }
