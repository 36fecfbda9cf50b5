-- What the check of one step says.
use Rattle.std.specs.Prelude.{◌≡◌, ℕ, zero, suc, ◌<◌, ◌≤◌, false, Some, None, Result, Ok, Err}
use Rattle.log_model.specs.Logs.{end_at}
use Rattle.replay_model.specs.Run.{advance}
use Rattle.replay_model.specs.Comparison.{Compared, at_step, difference}
use Rattle.replay_model.specs.declared.Divergence.{Divergence}
use Rattle.replay_run.specs.Runs.{RunAt}
use Rattle.replayer.specs.declared.check.Checked.{Checked}
use Rattle.replayer.specs.declared.check.Checked.TheVariants.{Advanced, Ended}

-- nothing differs before the end, and the step was made
pub record IsAdvanced (before after : RunAt) : Type 0 where
  pub agrees : difference before.log before.moment ≡ None
  pub early : before.moment.time < end_at before.log.end
  pub moved : after ≡ record { log = before.log; moment = advance before.moment; waits = false }

-- nothing differs, and the end is reached
pub record IsEnded (before : RunAt) : Type 0 where
  pub agrees : difference before.log before.moment ≡ None
  pub late : end_at before.log.end ≤ before.moment.time

-- this differs
pub record IsDifferent (before : RunAt) (d : Divergence) : Type 0 where
  pub first : Compared
  pub differs : difference before.log before.moment ≡ Some first
  pub divergence : d ≡ at_step before.moment.time first

abbrev pub IsStepChecked : RunAt → Result Checked Divergence → RunAt → Type 0
IsStepChecked before (Ok Advanced) after = IsAdvanced before after
IsStepChecked before (Ok Ended) after = IsEnded before
IsStepChecked before (Err d) after = IsDifferent before d

-- ---- plain steps

-- one plain step was made, with no difference, or this differs
abbrev pub IsPlainStepChecked : {T : Type 0} → RunAt → Result T Divergence → RunAt → Type 0
IsPlainStepChecked before (Ok done) after = IsAdvanced before after × (after.moment.left ≡ before.moment.left)
IsPlainStepChecked before (Err d) after = IsDifferent before d

-- so many steps were made, and nothing differed before any of them
abbrev pub Advances : ℕ → RunAt → RunAt → Type 0
Advances zero before after = after ≡ before
Advances (suc n) before after = (between : RunAt) × Advances n before between × IsAdvanced between after

-- some steps were made with no difference
pub record IsPassed (before after : RunAt) : Type 0 where
  pub count : ℕ
  pub steps : Advances count before after

-- no step between them took a record, and no call waits
pub record TookNoRecord (before after : RunAt) : Type 0 where
  pub same_log : after.log ≡ before.log
  pub left : after.moment.left ≡ before.moment.left
  pub goes_on : after.waits ≡ false
  pub later : before.moment.time ≤ after.moment.time

-- after some steps with no difference this differs
pub record DiffersLater (before : RunAt) (d : Divergence) : Type 0 where
  pub there : RunAt
  pub passed : IsPassed before there
  pub different : IsDifferent there d
