-- Checkpoints that are taken while a run is watched.
use Rattle.std.specs.Prelude.{◌≡◌, ℕ, ◌-◌, ◌<◌, ◌≤◌, Bool, false, List, [], ◌∷◌, ◌++◌, length, map, take, get_or}
use Rattle.log_model.specs.Logs.{steps}
use Rattle.epoch_model.specs.Cutting.{IsCutting}
use Rattle.replay_run.specs.Runs.{RunAt}
use Rattle.replayer.specs.Jobs.{Job, IsJob}
use Rattle.replayer.specs.Cursors.{Stands}
use Rattle.checkpoints.specs.Touched.{TouchedAt, AreOthersSame}
use Rattle.checkpoints.specs.Points.{CheckpointAt, time_of, AreCheckpoints, AreOfWindow, window_at, last_window}

-- the checkpoints that are taken so far, and their pages
pub record TakenAt : Type 0 where
  pub pages : List (List ℕ)
  pub points : List CheckpointAt

-- they are those of the job at these times
pub record AreTaken (job : Job) (times : List ℕ) (taken : TakenAt) : Type 0 where
  pub are : AreCheckpoints job taken.pages taken.points
  pub at : map time_of taken.points ≡ times

-- one more is taken where a run stands: pages that weren't touched since the last are as they were
abbrev pub IsOneTaken : RunAt → List Bool → TakenAt → TakenAt → Type 0
IsOneTaken at flags old new =
    (job : Job) (times : List ℕ) → Stands job at → AreTaken job times old → AreOthersSame flags (last_window job [] times) (window_at job at.moment.time)
    → AreTaken job (times ++ at.moment.time ∷ []) new

-- a taker of checkpoints: the cuts of the run, when the next checkpoint is due, the pages written since the last, those that
-- are taken, and whether memory has run out
pub record TakerAt : Type 0 where
  pub cuts : List ℕ
  pub next : ℕ
  pub touched : TouchedAt
  pub taken : TakenAt
  pub is_out : Bool

-- the times of those that are taken: epochs begin at 0 and at each cut but the last
abbrev pub times_taken : TakerAt → List ℕ
times_taken w = take (length w.taken.points) (0 ∷ w.cuts)

-- the time up to which no checkpoint is due: steps that end by then are noted, and no more
abbrev pub quiet_of : TakerAt → ℕ
quiet_of w = w.next - 1

-- where the run stands at time t: these are taken, and the pages that were written since the last are noted
pub record IsTakenBefore (job : Job) (t : ℕ) (w : TakerAt) : Type 0 where
  pub taken : AreTaken job (times_taken w) w.taken
  pub few : length w.taken.points ≤ length w.cuts
  pub next : w.next ≡ get_or (0 ∷ w.cuts) (length w.taken.points) 0
  pub flags : AreOfWindow job w.touched
  pub others : AreOthersSame w.touched.flags (last_window job [] (times_taken w)) (window_at job t)

-- and so is the one at this time: the next epoch, if there is one, begins later
pub record IsTakenTo (job : Job) (t : ℕ) (w : TakerAt) : Type 0 where
  pub before : IsTakenBefore job t w
  pub later : length w.taken.points < length w.cuts → t < w.next

-- the one that is due where a run stands is taken
abbrev pub IsDueTaken : RunAt → TakerAt → TakerAt → Type 0
IsDueTaken at old new =
    (job : Job) → Stands job at → at.moment.time ≡ old.next → IsCutting (steps job.log) old.cuts → IsTakenBefore job at.moment.time old
    → new.is_out ≡ false → IsTakenTo job at.moment.time new

-- of a job that is cut so, all that begin up to this time are taken, unless memory ran out
abbrev pub HasTaken : Job → ℕ → TakerAt → Type 0
HasTaken job t w = IsJob job → IsCutting (steps job.log) w.cuts → w.is_out ≡ false → IsTakenTo job t w

-- what a taker has seen of a job: so many steps. Its cuts are what they were
pub record HasSeen (was w : TakerAt) (job : Job) (t : ℕ) : Type 0 where
  pub cuts : w.cuts ≡ was.cuts
  pub taken : HasTaken job t w
