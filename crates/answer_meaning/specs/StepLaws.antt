-- What the flow table means of one step of a run.
use Rattle.std.specs.Prelude.{◌≡◌, ℕ, ◌%◌, ◌/◌, ◌^◌, ◌<◌, ◌≤◌, Bool, true, false, if◌then◌else◌, List, [], ◌∷◌, length, Option, Some, None, slice_index, Contains}
use Rattle.isa.specs.declared.Instr.{Instr}
use Rattle.isa.specs.declared.Instr.TheVariants.{Lb, Lh, Lw, Lbu, Lhu}
use Rattle.isa.specs.Machine.{State, Outcome, Retired, Called, Trapped, next, as_word}
use Rattle.isa.specs.Calls.{no_such_call}
use Rattle.log_model.specs.declared.CallRecord.{CallRecord}
use Rattle.log_model.specs.declared.CallRecord.TheVariants.{Read, Write, Clock, Other}
use Rattle.log_model.specs.Logs.{IsRecord}
use Rattle.log_model.specs.Moved.{received_of}
use Rattle.flow_model.specs.declared.Loc.{Loc}
use Rattle.flow_model.specs.declared.Loc.TheVariants.{Mem}
use Rattle.flow_model.specs.declared.Rule.{Rule}
use Rattle.flow_model.specs.declared.Rule.TheVariants.{Copy, Keep, Compute, Index}
use Rattle.flow_model.specs.declared.StepSeen.{StepSeen}
use Rattle.flow_model.specs.declared.CallSeen.{CallSeen}
use Rattle.flow_model.specs.Flow.{from, is_received, distance}
use Rattle.replay_model.specs.Run.{Moment, advance, step_of}
use Rattle.replay_model.specs.Comparison.{IsLawful}
use Rattle.record_model.specs.States.{IsSound}
use Rattle.answer_meaning.specs.Content.{content, AgreeAt}

-- ---- a step that is done

-- the record that answers a call is one of a log, and lawful; where no record is left, nothing is asked of the call
abbrev pub IsAnswered : State → ℕ → List CallRecord → Type 0
IsAnswered s inputs [] = Unit {0}
IsAnswered s inputs (r ∷ rs) = IsRecord r × IsLawful s inputs r

abbrev pub IsDoneBy : State → ℕ → List CallRecord → Outcome → Type 0
IsDoneBy s inputs left (Retired t) = Unit {0}
IsDoneBy s inputs left (Called call) = IsAnswered s inputs left
IsDoneBy s inputs left (Trapped kind) = ⊥

-- a step is done at a moment of a run with so many input channels: an instruction retires, or a call is answered
abbrev pub IsDone : ℕ → Moment → Type 0
IsDone inputs m = IsDoneBy m.state inputs m.left (next m.state)

abbrev pub receives_by : Option CallSeen → Loc → Bool
receives_by None l = false
receives_by (Some call) l = is_received call l

-- the step puts a byte that it read at a location
abbrev pub receives : StepSeen → Loc → Bool
receives step l = receives_by step.call l

-- the bytes of the record that answers
abbrev pub bytes_given : List CallRecord → List ℕ
bytes_given [] = []
bytes_given (r ∷ rs) = received_of r

-- ---- one step in two runs

-- the words that an answer puts into x10 and x11
abbrev pub words_of : CallRecord → List ℕ
words_of (Read at args result bytes) = as_word result ∷ []
words_of (Write at args result bytes) = as_word result ∷ []
words_of (Clock at value) = value % 2 ^ 32 ∷ value / 2 ^ 32 ∷ []
words_of (Other at number) = as_word no_such_call ∷ []

abbrev pub words_given : List CallRecord → List ℕ
words_given [] = []
words_given (r ∷ rs) = words_of r

abbrev pub answer_by : Outcome → List CallRecord → List ℕ
answer_by (Retired s) left = []
answer_by (Called call) left = words_given left
answer_by (Trapped kind) left = []

-- what the environment answers in the step that is done at a moment, apart from the bytes of a read
abbrev pub answer : Moment → List ℕ
answer m = answer_by (next m.state) m.left

abbrev pub is_load : Instr → Bool
is_load (Lb d a imm) = true
is_load (Lh d a imm) = true
is_load (Lw d a imm) = true
is_load (Lbu d a imm) = true
is_load (Lhu d a imm) = true
is_load other = false

-- what two runs on one path have in common of a step: all of it, but under the rule index not the effective address of a
-- load, since what is loaded comes from the base register too
abbrev pub on_path : Rule → StepSeen → StepSeen
on_path Copy step = step
on_path Keep step = step
on_path Compute step = step
on_path Index step = record step { place = if is_load step.instr then 0 else step.place }

-- two moments at which the same is done: at one pc one instruction, with one effective address or one call, and one answer
pub record SameStep (rule : Rule) (m n : Moment) : Type 0 where
  pub pc : m.state.pc ≡ n.state.pc
  pub step : on_path rule (step_of m) ≡ on_path rule (step_of n)
  pub answer : answer m ≡ answer n

-- ---- the laws

-- a step leaves a sound state sound
abbrev pub StaysSound : Type 0
StaysSound = (inputs : ℕ) (m : Moment) → IsSound m.state → IsDone inputs m → IsSound (advance m).state

-- the rules by which content is moved, and never computed
pub data OnlyMoves : Rule → Type 0 where
  ByCopy : OnlyMoves Copy
  ByKeep : OnlyMoves Keep

-- at most one location flows into another by such a rule
abbrev pub MovesAreSingle : Type 0
MovesAreSingle = (rule : Rule) → OnlyMoves rule → (step : StepSeen) (l : Loc) → length (from rule step l) ≤ 1

-- where one location flows into another by such a rule, the content after the step is that location's before it
abbrev pub MovesKeepContent : Type 0
MovesKeepContent = (rule : Rule) → OnlyMoves rule → (inputs : ℕ) (m : Moment) (l k : Loc)
    → IsSound m.state → IsDone inputs m → from rule (step_of m) l ≡ k ∷ []
    → content (advance m).state l ≡ content m.state k

-- where the same is done in two states that agree at all that flows into a location by the rule, they agree there after
-- the step. A byte that is read is none of these contents
abbrev pub DeterminedBy : Rule → Type 0
DeterminedBy rule = (i j : ℕ) (m n : Moment) (l : Loc) → IsSound m.state → IsSound n.state → IsDone i m → IsDone j n → SameStep rule m n
    → receives (step_of m) l ≡ false → AgreeAt m.state n.state (from rule (step_of m) l) → content (advance m).state l ≡ content (advance n).state l

-- a byte that is read is the content of its place after the step
pub record IsReceivedThere (m : Moment) (call : CallSeen) (p : ℕ) : Type 0 where
  pub inside : distance call.place p < call.length
  pub content_is : content (advance m).state (Mem p) ≡ slice_index (bytes_given m.left) (distance call.place p)

abbrev pub ReceivedIsThere : Type 0
ReceivedIsThere = (inputs : ℕ) (m : Moment) (call : CallSeen) (p : ℕ) → IsSound m.state → IsDone inputs m
    → p < 2 ^ 32 → (step_of m).call ≡ Some call → is_received call (Mem p) ≡ true → IsReceivedThere m call p

-- what flows by one rule flows by another
abbrev pub FlowsWithin : Rule → Rule → Type 0
FlowsWithin few many = (step : StepSeen) (l k : Loc) → Contains (from few step l) k → Contains (from many step l) k
