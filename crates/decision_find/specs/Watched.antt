-- What is known of a run whose decisions are counted while it is gone through.
use Rattle.std.specs.Prelude.{◌≡◌, ℕ, ◌<◌, true, Option, Result, IfOk}
use Rattle.no_memory.specs.declared.NoMemory.{NoMemory}
use Rattle.log_model.specs.declared.RunEnd.{RunEnd}
use Rattle.log_model.specs.Logs.{steps}
use Rattle.report_model.specs.Query.{Query}
use Rattle.replay_run.specs.Runs.{RunAt}
use Rattle.replayer.specs.Jobs.{Job, IsJob}
use Rattle.replayer.specs.Cursors.{Stands}
use Rattle.decision_find.specs.declared.tracking.DecisionTracking.{DecisionTracking}
use Rattle.decision_find.specs.Traps.{trap_time, traps_at}
use Rattle.decision_find.specs.Following.{IsTracked, HasDecisions, moment_of}

-- a watcher of decisions: what it tracked, unless memory ran out, where the run stands, and when it traps
pub record WatchingAt : Type 0 where
  pub tracking : Result DecisionTracking NoMemory
  pub pc : ℕ
  pub trap_at : Option ℕ

-- so many steps of a job's run are followed; where they are all, all decisions are counted, also those where it traps
pub record IsFollowed (q : Query) (job : Job) (t : ℕ) (tracking : DecisionTracking) : Type 0 where
  pub tracked : t < steps job.log → IsTracked q job t tracking
  pub counted : t ≡ steps job.log → HasDecisions q job tracking

-- no step was told yet of a run that ends so
pub record HasBegun (q : Query) (ends : RunEnd) (w : WatchingAt) : Type 0 where
  pub trap_is : w.trap_at ≡ trap_time ends
  pub tracked : IfOk w.tracking (λ tracking. (job : Job) → IsTracked q job 0 tracking)

-- a watcher that has seen so many steps of a job's run, as long as there was memory
pub record IsSeenTo (q : Query) (job : Job) (t : ℕ) (w : WatchingAt) : Type 0 where
  pub trap_is : w.trap_at ≡ trap_time job.log.end
  pub followed : IfOk w.tracking (λ tracking. (w.pc ≡ (moment_of job t).state.pc) × IsFollowed q job t tracking)

-- if it had begun, it has seen so many steps of the job now
abbrev pub has_seen : WatchingAt → WatchingAt → Job → ℕ → Type 0
has_seen was now job t = (q : Query) → HasBegun q job.log.end was → IsJob job → IsSeenTo q job t now

-- ---- where a run stands

-- the run traps there, and all decisions are counted now
abbrev pub LooksAtTrap : RunAt → DecisionTracking → DecisionTracking → Type 0
LooksAtTrap at old new =
    (q : Query) (job : Job) → IsJob job → Stands job at → traps_at (trap_time job.log.end) at.moment.time ≡ true
    → IsTracked q job at.moment.time old → HasDecisions q job new

-- where the steps before were followed, the watcher has seen them now
abbrev pub StandsAt : RunAt → WatchingAt → WatchingAt → Type 0
StandsAt at old new =
    (q : Query) (job : Job) → IsJob job → Stands job at → old.trap_at ≡ trap_time job.log.end
    → IfOk old.tracking (IsTracked q job at.moment.time) → IsSeenTo q job at.moment.time new
