-- Register x0 reads 0, whatever a run does ("Programmers' Model for Base Integer ISA").
use Rattle.std.specs.Prelude.{◌≡◌, ℕ, List, ℤ}
use Rattle.isa.specs.Machine.{State, Retired, reg, next}
use Rattle.isa.specs.Calls.{after_read, after_write, after_clock, after_other, after_exit}

abbrev pub IsX0Zero : State → Type 0
IsX0Zero s = reg s 0 ≡ 0

-- a step that retires keeps it 0
abbrev pub StepKeepsX0 : Type 0
StepKeepsX0 = (before after : State) → IsX0Zero before → next before ≡ Retired after → IsX0Zero after

-- and so does the answer to a call of each kind
pub record AnswersKeepX0 (s : State) : Type 0 where
  pub read : (address : ℕ) (result : ℤ) (bytes : List ℕ) → IsX0Zero (after_read s address result bytes)
  pub write : (result : ℤ) → IsX0Zero (after_write s result)
  pub clock : (value : ℕ) → IsX0Zero (after_clock s value)
  pub other : IsX0Zero (after_other s)
  pub exit : IsX0Zero (after_exit s)

abbrev pub AnswerKeepsX0 : Type 0
AnswerKeepsX0 = (s : State) → IsX0Zero s → AnswersKeepX0 s
