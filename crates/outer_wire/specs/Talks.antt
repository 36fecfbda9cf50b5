-- Talks over a wire: who answers there, and how what passed is a talk.
use Rattle.std.specs.Prelude.{◌≡◌, ◌≤◌, ℕ, Bool, true, false, ◌||◌, List, [], ◌∷◌, ◌++◌, Result, Ok, Err}
use Rattle.outer_io.specs.Faults.{Rose}
use Rattle.outer_io.specs.Tells.{IsPrefix, Tells}
use Rattle.no_memory.specs.declared.Fault.{Fault}
use Rattle.no_memory.specs.declared.Fault.TheVariants.{At, NoMemory}
use Rattle.outer_wire.specs.Wires.{Passed, Came, came, went, is_at_end, WireShown}
use Rattle.outer_wire.specs.declared.broken.Broken.{Broken}
use Rattle.outer_wire.specs.declared.broken.Broken.TheVariants.{Receiving, Sending}

-- ---- who answers

-- what is said in answer to all bytes that come, and whether these end the talk
pub record Answers : Type 0 where
  pub says : List ℕ → List ℕ
  pub ends : List ℕ → Bool

-- the talk has ended: nothing more is said
abbrev pub no_more : Answers
no_more = record { says = λ bytes. []; ends = λ bytes. true }

-- what is left to be said, where the talk has ended, or goes on so
abbrev pub left_by : Bool → Answers → Answers
left_by true answers = no_more
left_by false answers = answers

-- these bytes came and this was said in answer, and the rest answers what comes after them
pub record GoesOn (answers : Answers) (bytes said : List ℕ) (rest : Answers) : Type 0 where
  pub says : (after : List ℕ) → answers.says (bytes ++ after) ≡ said ++ rest.says after
  pub ends : (after : List ℕ) → answers.ends (bytes ++ after) ≡ rest.ends after

-- one byte was heard: what was said in answer to it stands at the end of what is written
pub record Hears (old new : Answers) (byte : ℕ) (over : Bool) (written written_after : List ℕ) : Type 0 where
  pub said : List ℕ
  pub gains : written_after ≡ written ++ said
  pub goes_on : GoesOn old (byte ∷ []) said (left_by over new)

-- ---- what passed

-- the talk is over: what came ended it, or the wire was found at its end
abbrev pub is_over : Answers → List Passed → Bool
is_over answers passed = answers.ends (came passed) || is_at_end passed

-- wherever bytes came, all had been said before in answer to what had come by then, and the talk wasn't over
abbrev pub IsInTurn : Answers → List Passed → Type 0
IsInTurn answers passed = (before after : List Passed) (bytes : List ℕ) → passed ≡ before ++ Came bytes ∷ after
    → (went before ≡ answers.says (came before)) × (is_over answers before ≡ false)

-- what passed is a talk: what went is what is said in answer to what came, each answer before more came
pub record IsTalk (answers : Answers) (passed : List Passed) : Type 0 where
  pub whole : went passed ≡ answers.says (came passed)
  pub in_turn : IsInTurn answers passed

-- the same, but of what is said in answer to the bytes that came last only the first may have gone
pub record IsTalkInPart (answers : Answers) (passed : List Passed) : Type 0 where
  pub part : IsPrefix (went passed) (answers.says (came passed))
  pub in_turn : IsInTurn answers passed

-- it is a talk, and over
pub record IsWholeTalk (answers : Answers) (passed : List Passed) : Type 0 where
  pub talk : IsTalk answers passed
  pub over : is_over answers passed ≡ true

-- what passed since is so
pub record Gained (is_so : List Passed → Type 0) (old new : List Passed) : Type 0 where
  pub passed : List Passed
  pub gains : new ≡ old ++ passed
  pub so : is_so passed

-- ---- how a talk ended

-- what passed is a talk that is over; or a talk, where bytes could not be received; or else a part of one
abbrev pub is_talk_by : {T : Type 0} → Result T (Fault Broken) → Answers → List Passed → Type 0
is_talk_by (Ok done) = IsWholeTalk
is_talk_by (Err (At Receiving)) = IsTalk
is_talk_by (Err (At Sending)) = IsTalkInPart
is_talk_by (Err (NoMemory no_memory)) = IsTalkInPart

-- a call failed exactly where the wire is said to be broken
abbrev pub faults_by : {T : Type 0} → Result T (Fault Broken) → ℕ → ℕ → Type 0
faults_by (Ok done) before now = now ≡ before
faults_by (Err (At broken)) before now = (before ≤ now) × Rose before now
faults_by (Err (NoMemory no_memory)) before now = now ≡ before

pub record Talks {T : Type 0} (answers : Answers) (old new : WireShown) (result : Result T (Fault Broken)) : Type 0 where
  pub told : Tells old.history new.history (Gained (is_talk_by result answers))
  pub faults : faults_by result old.faults new.faults
