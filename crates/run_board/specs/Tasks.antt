-- Tasks, what contracts see of them, and their numbers.
use Rattle.std.specs.Prelude.{◌≡◌, ◌⊎◌, ℕ, Some, List, length, map, slice_get}
use Rattle.std.specs.List.{range_with_len}

-- what contracts see of tasks: the number of each, which no turn changes; `led_from new old`, that some turns lead from `old` to
-- `new`; and which are ended
pub record TaskWords (T : Type 0) : Type 1 where
  pub number : T → ℕ
  pub led_from : T → T → Type 0
  pub ended : T → Type 0

-- their numbers are 0, 1, 2 and so on
abbrev pub AreNumbered : {T : Type 0} → (T → ℕ) → List T → Type 0
AreNumbered number tasks = map number tasks ≡ range_with_len 0 (length tasks)

module _ {T : Type 0} (words : TaskWords T) where
  -- the task is led from the one of the starts that stands at its number
  abbrev pub IsLed : List T → T → Type 0
  IsLed starts task = (start : T) × (slice_get starts (words.number task) ≡ Some start) × words.led_from task start

-- a task that waits for a turn: led from its start, and that start itself or not ended
pub record IsWaiting {T : Type 0} (words : TaskWords T) (starts : List T) (task : T) : Type 0 where
  pub is_led : IsLed words starts task
  pub is_open : (slice_get starts (words.number task) ≡ Some task) ⊎ ¬ words.ended task
