-- The checkpoints of a job's run: what they are, and how many pages they hold.
use Rattle.std.specs.Prelude.{◌≡◌, ℕ, ◌+◌, List, [], ◌∷◌, length, map, take}
use Rattle.std.specs.List.{All}
use Rattle.replay_model.specs.Run.{start, moment_after}
use Rattle.replayer.specs.Jobs.{Job}
use Rattle.replayer.specs.Saved.{SavedCursor, RestOfCursor, rest_of, IsOfJob}
use Rattle.checkpoints.specs.Pages.{page_count, changed, ArePagesOf}
use Rattle.checkpoints.specs.Touched.{TouchedAt}

-- a checkpoint: the numbers of its window's pages, and all else of the saved cursor
pub record CheckpointAt : Type 0 where
  pub numbers : List ℕ
  pub rest : RestOfCursor

-- the time at which it was taken
abbrev pub time_of : CheckpointAt → ℕ
time_of point = point.rest.counters.time

-- the checkpoints of a job, seen as the times at which they were taken
pub record CheckpointsAt : Type 0 where
  pub job : Job
  pub times : List ℕ

-- the times at which the epochs begin: 0, and each cut but the last
abbrev pub beginnings : List ℕ → List ℕ
beginnings cuts = take (length cuts) (0 ∷ cuts)

-- ---- how many pages are held

-- the machine's window at a time of the job's run
abbrev pub window_at : Job → ℕ → List ℕ
window_at job t = (moment_after t (start job.start job.log)).state.memory

-- the windows at these times, each with the one before it: at how many places the two have pages that differ
abbrev pub changed_after : Job → List ℕ → List ℕ → ℕ
changed_after job before [] = 0
changed_after job before (t ∷ ts) = changed before (window_at job t) + changed_after job (window_at job t) ts

-- all pages of the first window, and those of each later one that differ from the page at their place in the one before
abbrev pub held_at : Job → List ℕ → ℕ
held_at job [] = 0
held_at job (t ∷ ts) = page_count (window_at job t) + changed_after job (window_at job t) ts

-- how many pages are held
abbrev pub held : CheckpointsAt → ℕ
held points = held_at points.job points.times

-- the last window of these times, and this one where there is no time
abbrev pub last_window : Job → List ℕ → List ℕ → List ℕ
last_window job before [] = before
last_window job before (t ∷ ts) = last_window job (window_at job t) ts

-- the flags are those of the pages of the job's window
pub record AreOfWindow (job : Job) (touched : TouchedAt) : Type 0 where
  pub base : touched.base ≡ job.start.base
  pub count : length touched.flags ≡ page_count job.start.memory

-- ---- what is true of checkpoints

-- the checkpoint has a state of the job's cursor, and its window's pages are held
pub record IsCheckpoint (job : Job) (pages : List (List ℕ)) (point : CheckpointAt) : Type 0 where
  pub saved : SavedCursor
  pub of_job : IsOfJob job saved
  pub rest : point.rest ≡ rest_of saved
  pub paged : ArePagesOf pages point.numbers saved.machine.memory

-- the numbers of the last checkpoint's pages, and these where there is no checkpoint
abbrev pub last_numbers : List ℕ → List CheckpointAt → List ℕ
last_numbers numbers [] = numbers
last_numbers numbers (point ∷ points) = last_numbers point.numbers points

-- each is one of the job, and no page is held but those of the first window and those that changed
pub record AreCheckpoints (job : Job) (pages : List (List ℕ)) (points : List CheckpointAt) : Type 0 where
  pub each : All (IsCheckpoint job pages) points
  pub count : length pages ≡ held record { job = job; times = map time_of points }
