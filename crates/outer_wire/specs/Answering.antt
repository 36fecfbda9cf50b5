-- Bytes that came at once, and what is sent in answer to them.
use Rattle.std.specs.Prelude.{ℕ, Bool, List, Result, Ok, Err}
use Rattle.outer_io.specs.Tells.{Tells, IsPrefix}
use Rattle.no_memory.specs.declared.Fault.{Fault}
use Rattle.outer_wire.specs.Wires.{Passed, WireShown}
use Rattle.outer_wire.specs.Sending.{Sends}
use Rattle.outer_wire.specs.Talks.{Answers, GoesOn, left_by, faults_by}
use Rattle.no_memory.specs.declared.Fault.TheVariants.{At, NoMemory}
use Rattle.outer_wire.specs.declared.broken.Broken.{Broken}
use Rattle.outer_wire.specs.declared.broken.Broken.TheVariants.{Receiving, Sending}

-- all that is said in answer to the bytes was sent, and the rest answers what comes after them
pub record IsAnswered (answers : Answers) (bytes : List ℕ) (rest : Answers) (old new : List Passed) : Type 0 where
  pub said : List ℕ
  pub sends : Sends said old new
  pub goes_on : GoesOn answers bytes said rest

-- only the first of it may have been sent
pub record IsAnsweredInPart (answers : Answers) (bytes : List ℕ) (old new : List Passed) : Type 0 where
  pub said : List ℕ
  pub sends : Sends said old new
  pub part : IsPrefix said (answers.says bytes)

abbrev pub answered_by : Result Bool (Fault Broken) → Answers → Answers → List ℕ → List Passed → List Passed → Type 0
answered_by (Ok over) old new bytes = IsAnswered old bytes (left_by over new)
answered_by (Err (At Receiving)) old new bytes = λ before after. ⊥
answered_by (Err (At Sending)) old new bytes = IsAnsweredInPart old bytes
answered_by (Err (NoMemory no_memory)) old new bytes = IsAnsweredInPart old bytes

pub record AnswersPiece (old new : Answers) (bytes : List ℕ) (before now : WireShown) (result : Result Bool (Fault Broken)) : Type 0 where
  pub told : Tells before.history now.history (answered_by result old new bytes)
  pub faults : faults_by result before.faults now.faults
