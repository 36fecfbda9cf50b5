-- What a watcher is told of a run that is checked.
use Rattle.std.specs.Prelude.{◌≡◌, ℕ, ◌+◌, ◌-◌, ◌^◌, ◌<◌, ◌≤◌, Some, Result, Ok, Err}
use Rattle.isa.specs.declared.Instr.{Instr}
use Rattle.isa.specs.Encodings.{Fits}
use Rattle.log_model.specs.Logs.{steps}
use Rattle.flow_model.specs.declared.StepSeen.{StepSeen}
use Rattle.flow_model.specs.Origins.{step_at}
use Rattle.replay_model.specs.declared.Divergence.{Divergence}
use Rattle.rv_machine.specs.Running.{Tells}
use Rattle.replay_run.specs.Runs.{RunAt}
use Rattle.replayer.specs.declared.check.Checked.{Checked}
use Rattle.replayer.specs.declared.check.Checked.TheVariants.{Advanced, Ended}
use Rattle.replayer.specs.Jobs.{Job, trace_of}
use Rattle.replayer.specs.Cursors.{Stands}
use Rattle.replayer.specs.Nexts.{seen_at}
use Rattle.replayer.specs.CheckedSteps.{IsPassed, IsEnded, IsDifferent, DiffersLater}

-- what a watcher that was the first, and is the second, has seen of a job: so many steps
abbrev pub Seen : Type 0 → Type 1
Seen W = W → W → Job → ℕ → Type 0

-- the job's run makes this step, and stands here after it
pub record IsMadeOf (job : Job) (s : StepSeen) (after : RunAt) : Type 0 where
  pub step : step_at (trace_of job) s.number ≡ Some s
  pub stands : Stands job after
  pub time : after.moment.time ≡ s.number + 1

-- the watcher was told that a run stands at its beginning
abbrev pub IsBegun : {W : Type 0} → Seen W → RunAt → W → W → Type 0
IsBegun seen at old new = (job : Job) → Stands job at → at.moment.time ≡ 0 → seen old new job 0

-- it was told of a step, after which the run stands here: if it had seen the steps before, it has seen this one too
abbrev pub IsToldOf : {W : Type 0} → Seen W → StepSeen → RunAt → W → W → Type 0
IsToldOf {W} seen s after old new = (was : W) (job : Job) → IsMadeOf job s after → seen was old job s.number → seen was new job (s.number + 1)

-- ---- plain steps in a row

-- it was told of a plain step at a time up to which it is quiet, by a time that fits: of each job whose run makes the step there, if it had seen the
-- steps before, it has seen this one too, and is quiet as long
abbrev pub IsToldInRow : {W : Type 0} → Seen W → (W → ℕ) → W → Instr → ℕ → W → Type 0
IsToldInRow {W} seen quiet old instr place new =
    (was : W) (job : Job) (until t : ℕ) (after : RunAt) → until < 2 ^ 64 → until ≤ quiet old → t < until → Fits instr
    → IsMadeOf job (seen_at t (record { instr = instr; place = place })) after → seen was old job t → (seen was new job (t + 1)) × (until ≤ quiet new)

-- the quiet time of a watcher to whom each step is to be told by itself
abbrev pub never_quiet : {W : Type 0} → W → ℕ
never_quiet w = 0

-- what it holds of to be told of steps in a row says that it was told of each
abbrev pub IsEnough : {W : Type 0} → Tells W → Seen W → (W → ℕ) → Type 0
IsEnough {W} told seen quiet = (old : W) (instr : Instr) (place : ℕ) (new : W) → told old instr place new → IsToldInRow seen quiet old instr place new

-- ---- while a log is checked

-- it was told of the next n steps of a run: if it had seen the steps before, it has seen these too
abbrev pub IsTold : {W : Type 0} → Seen W → RunAt → ℕ → W → W → Type 0
IsTold {W} seen before n old new =
    (was : W) (job : Job) → Stands job before → before.moment.time + n ≤ steps job.log → seen was old job before.moment.time → seen was new job (before.moment.time + n)

-- steps were made with no difference, and the watcher was told of each; or this is the first difference
pub record ArePassed {W : Type 0} (seen : Seen W) (before : RunAt) (old : W) (after : RunAt) (new : W) : Type 0 where
  pub passed : IsPassed before after
  pub told : IsTold seen before (after.moment.time - before.moment.time) old new

abbrev pub AreWatched : {W T : Type 0} → Seen W → RunAt → W → Result T Divergence → RunAt → W → Type 0
AreWatched seen before old (Ok done) after new = ArePassed seen before old after new
AreWatched seen before old (Err d) after new = DiffersLater before d

-- the watcher was told of the step that was made; at the end, of those that are left: the exit call, if the run ends by one
abbrev pub IsStepTold : {W : Type 0} → Seen W → RunAt → W → Result Checked Divergence → W → Type 0
IsStepTold seen before old (Ok Advanced) new = IsTold seen before 1 old new
IsStepTold seen before old (Ok Ended) new = IsTold seen before (steps before.log - before.moment.time) old new
IsStepTold seen before old (Err d) new = Unit {0}

-- at the time of the log's end nothing differs, and the watcher was told of the steps that are left; or this differs there
abbrev pub IsEndChecked : {W T : Type 0} → Seen W → RunAt → W → Result T Divergence → W → Type 0
IsEndChecked seen before old (Ok done) new = IsEnded before × IsTold seen before (steps before.log - before.moment.time) old new
IsEndChecked seen before old (Err d) new = IsDifferent before d
