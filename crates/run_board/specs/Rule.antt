-- The board's rule: what holds between any two steps of any workers, of the tasks in the queue and of what the workers know.
use Rattle.std.specs.Prelude.{◌≡◌, ℕ, ◌+◌, ◌<◌, ◌≤◌, List, [], length, All}
use Rattle.std.specs.List.{sum_by, range_with_len}
use Rattle.run_board.specs.declared.view.WorkerView.{WorkerView}
use Rattle.run_board.specs.Tasks.{TaskWords, IsWaiting}
use Rattle.run_board.specs.Views.{taken, whole_share}

-- what the numbers 0 to tasks - 1 weigh together
abbrev pub whole_weight : ℕ → (ℕ → ℕ) → ℕ
whole_weight tasks weight = sum_by weight (range_with_len 0 tasks)

-- what the numbers in the queue weigh together
abbrev pub queue_weight : {T : Type 0} → (T → ℕ) → (ℕ → ℕ) → List T → ℕ
queue_weight number weight queue = sum_by (λ task. weight (number task)) queue

-- what a worker's numbers weigh together
abbrev pub view_weight : {T : Type 0} → (ℕ → ℕ) → WorkerView T → ℕ
view_weight weight v = sum_by weight (taken v)

-- the numbers in the queue and with the workers are 0 to tasks - 1, each once: however a number is weighed, together they weigh as
-- much
abbrev pub EachOnce : {T : Type 0} → (T → ℕ) → ℕ → List T → List (WorkerView T) → Type 0
EachOnce number tasks queue views =
    (weight : ℕ → ℕ) → queue_weight number weight queue + sum_by (view_weight weight) views ≡ whole_weight tasks weight

-- a worker with no share has no number, and every other knows the tasks handed in so far
pub record Knows {T : Type 0} (starts : List T) (v : WorkerView T) : Type 0 where
  pub without : v.shares ≡ 0 → taken v ≡ []
  pub with_share : 0 < v.shares → v.starts ≡ starts

-- the rule of a board: `starts` are the tasks that were handed in so far
pub record Holds {T : Type 0} (words : TaskWords T) (queue : List T) (views : List (WorkerView T)) : Type 0 where
  pub starts : List T
  pub each_once : EachOnce words.number (length starts) queue views
  pub all_shares : sum_by (λ (v : WorkerView T). v.shares) views ≡ whole_share
  pub waiting : All (IsWaiting words starts) queue
  pub known : All (Knows starts) views

-- what a look at the queue teaches: there is room in it for all tasks whose numbers the worker has
abbrev pub HasRoom : {T : Type 0} → WorkerView T → List T → Type 0
HasRoom v queue = length queue + length (taken v) ≤ length v.starts

-- and a worker with all shares has every number that isn't in the queue, each once
abbrev pub HasRest : {T : Type 0} → (T → ℕ) → WorkerView T → List T → Type 0
HasRest number v queue =
    v.shares ≡ whole_share → (weight : ℕ → ℕ) → queue_weight number weight queue + view_weight weight v ≡ whole_weight (length v.starts) weight
