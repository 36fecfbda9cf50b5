-- Plain steps of a job's run that one was told of in a row.
use Rattle.std.specs.Prelude.{◌≡◌, ℕ, suc, Some}
use Rattle.isa.specs.Encodings.{Fits}
use Rattle.flow_model.specs.Origins.{step_at}
use Rattle.replay_model.specs.Run.{start, moment_after}
use Rattle.rv_machine.specs.Running.{Tells, Wants}
use Rattle.replayer.specs.declared.cursor.PlainStep.{PlainStep}
use Rattle.replayer.specs.Jobs.{Job, trace_of}
use Rattle.replayer.specs.Nexts.{seen_at}

-- one wanted each step that the job's run makes from the first time up to another, and was told of it or passed it by: from what it was to what it is
pub data AreTold {W : Type 0} (told : Tells W) (wants : Wants W) (job : Job) (first : ℕ) (was : W) : ℕ → W → Type 0 where
  NoneYet : AreTold told wants job first was first was
  OneMore : (t : ℕ) (w : W) (step : PlainStep) (next : W) → AreTold told wants job first was t w → wants w (moment_after t (start job.start job.log)).state.pc → Fits step.instr → step_at (trace_of job) t ≡ Some (seen_at t step) → told w step.instr step.place next → AreTold told wants job first was (suc t) next
