-- What workers keep.
use Rattle.std.specs.Prelude.{◌≡◌, ℕ, ◌<◌, ◌≤◌, Some, List, [], length, map, All, Vec, vec_capacity}
use Rattle.std.specs.List.{sum_by}
use Rattle.std.specs.declared.alloc.Global.{Global}
use Rattle.crossbeam_queue.specs.Passes.{Pass, view}
use Rattle.run_board.specs.declared.view.WorkerView.{WorkerView}
use Rattle.run_board.specs.declared.worker.Worker.{Worker}
use Rattle.run_board.specs.Tasks.{TaskWords, IsLed}
use Rattle.run_board.specs.Views.{taken, after_put_back}

-- a worker that has taken part in the work keeps the tasks whose numbers it has, each ended and led from its start
pub record Keeps {T : Type 0} (words : TaskWords T) (v : WorkerView T) (finished : List T) : Type 0 where
  pub working : 0 < v.shares
  pub numbers : map words.number finished ≡ taken v
  pub are_ended : All words.ended finished
  pub are_led : All (IsLed words v.starts) finished

-- it took this task, which isn't among those that it keeps
pub record HasTaken {T : Type 0} (words : TaskWords T) (v : WorkerView T) (finished : List T) (task : T) : Type 0 where
  pub keeps : Keeps words (after_put_back v) finished
  pub holds : v.held ≡ Some (words.number task)
  pub is_led : IsLed words v.starts task

module _ {T : Type 0} where
  abbrev pub view_of : Worker T → WorkerView T
  view_of worker = view worker.pass

  -- the shares of all these workers
  abbrev pub shares_of : List (Worker T) → ℕ
  shares_of workers = sum_by (λ (worker : Worker T). (view_of worker).shares) workers

  -- the worker knows these as the tasks handed in
  abbrev pub KnowsStarts : List T → Worker T → Type 0
  KnowsStarts starts worker = (view_of worker).starts ≡ starts

  -- all know the same tasks
  abbrev pub Agree : List (Worker T) → Type 0
  Agree workers = (starts : List T) × All (KnowsStarts starts) workers

-- a worker that has a pass of the queue, whose capacity serves for all tasks, keeps its finished tasks, and has room for all
pub record IsReady {T : Type 0} (words : TaskWords T) (capacity : ℕ) (is_pass : Pass T (WorkerView T) → Type 0) (worker : Worker T) : Type 0 where
  pub has_pass : is_pass worker.pass
  pub keeps : Keeps words (view_of worker) worker.finished.items
  pub few : length (view_of worker).starts ≤ capacity
  pub room : capacity ≤ vec_capacity worker.finished

-- an empty list with room for so many tasks
abbrev pub HasRoomFor : {T : Type 0} → ℕ → Vec T Global → Type 0
HasRoomFor capacity list = (list.items ≡ []) × (capacity ≤ vec_capacity list)

-- it is the same worker: it has the shares that it had, and knows the same tasks
pub record IsSameWorker {T : Type 0} (old new : Worker T) : Type 0 where
  pub shares : (view_of new).shares ≡ (view_of old).shares
  pub starts : (view_of new).starts ≡ (view_of old).starts
