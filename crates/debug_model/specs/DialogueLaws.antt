-- What is always true of dialogues.
use Rattle.std.specs.Prelude.{◌≡◌, ℕ, true, List, ◌++◌}
use Rattle.std.specs.List.{list_any}
use Rattle.replayer.specs.Jobs.{Job}
use Rattle.remote_frames.specs.Frames.{heard}
use Rattle.debug_model.specs.Dialogues.{is_end, dialogue}

-- what is written for the beginning of bytes is the beginning of what is written for all. So each answer depends on
-- what came before it alone
abbrev pub BeginningIsBeginning : Type 0
BeginningIsBeginning = (job : Job) (t : ℕ) (bytes after : List ℕ)
    → (more : List ℕ) × (dialogue job t (bytes ++ after) ≡ dialogue job t bytes ++ more)

-- behind a packet that ends the session nothing is written
abbrev pub NothingIsBehindTheEnd : Type 0
NothingIsBehindTheEnd = (job : Job) (t : ℕ) (bytes after : List ℕ) → list_any is_end (heard bytes) ≡ true
    → dialogue job t (bytes ++ after) ≡ dialogue job t bytes
