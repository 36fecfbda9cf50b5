-- What a command reads, what its files come to, and where that goes.
use Rattle.std.specs.Prelude.{◌≡◌, ℕ, Bool, true, false, List, [], ◌∷◌, ◌++◌, map, Option, Some, None, Result, String, string_bytes, codes}
use Rattle.std.specs.declared.alloc.Global.{Global}
use Rattle.outer_io.specs.Files.{Text}
use Rattle.jet_words.specs.Commands.{CommandOf, AnalysisOf, ProductOf, StacksOf, DecisionsOf, PageOf, RecordOf, ConvertOf, CoreOf, QueriesOf, BenchOf, command_of}
use Rattle.jet_refusal.specs.declared.refusal.Refusal.{Refusal}
use Rattle.jet_model.specs.Contents.{Contents}
use Rattle.jet_model.specs.Answer.{query_answer, queries_answer, run_answer, convert_answer}
use Rattle.page_text.specs.Texts.{mark as page_mark}
use Rattle.page_data.specs.Page.{page_report}
use Rattle.core_file.specs.Headers.{core_mark}
use Rattle.order_gateway.specs.Answer.{IsBenchAnswer}
use Rattle.jet_commands.specs.Targets.{Target, ToOutput, ToFile, written_in}
use Rattle.jet_commands.specs.Answers.{IsRecording, given_by, decisions_by, made_by, stacks_by, core_by, named, limits_of, workload_length}

-- the command that the words stand for, if they stand for one
abbrev pub command_in : List (String Global) → Option CommandOf
command_in words = command_of (map string_bytes words)

-- what each log begins with
abbrev pub log_mark : List ℕ
log_mark = codes "JETLOG"

-- what a command has to do with the outside
pub record Plan : Type 1 where
  -- the files that are read, in their order
  pub sources : List Text
  pub target : Target
  -- what a file begins with whose place its file may take
  pub mark : List ℕ
  -- whether the clock is read
  pub is_timed : Bool
  -- the content of the files comes to this answer; before that, what the clock told before and after
  pub comes_to : Option (List ℕ) → Option (List ℕ) → Contents → Result (List ℕ) Refusal → Type 0

-- these files are read, and the text that they come to is told
abbrev pub told : List Text → (Contents → Result (List ℕ) Refusal → Type 0) → Plan
told sources answer = record { sources = sources; target = ToOutput; mark = log_mark; is_timed = false; comes_to = λ heard heard_after. answer }

-- the same, but the text goes into a file of this name, which takes the place of one with this mark
abbrev pub made : Text → List ℕ → List Text → (Contents → Result (List ℕ) Refusal → Type 0) → Plan
made name mark sources answer = record { sources = sources; target = ToFile name; mark = mark; is_timed = false; comes_to = λ heard heard_after. answer }

abbrev pub plan_of : CommandOf → Plan
plan_of (AnalysisOf listing program log query pipeline) =
    told (program ∷ log ∷ query ∷ []) (λ file answer. query_answer (given_by listing) pipeline.epoch file (named program log query) ≡ answer)
plan_of (ProductOf product program log) = told (program ∷ log ∷ []) (λ file answer. run_answer file program log (made_by product) ≡ answer)
plan_of (StacksOf program log times) = told (program ∷ log ∷ []) (λ file answer. run_answer file program log (stacks_by times) ≡ answer)
plan_of (DecisionsOf program log query) =
    told (program ∷ log ∷ query ∷ []) (λ file answer. query_answer decisions_by None file (named program log query) ≡ answer)
plan_of (PageOf program log query page pipeline) =
    made page page_mark (program ∷ log ∷ query ∷ []) (λ file answer. query_answer page_report pipeline.epoch file (named program log query) ≡ answer)
plan_of (RecordOf program log inputs pages piece steps) = record {
  sources = program ∷ inputs;
  target = ToFile log;
  mark = log_mark;
  is_timed = true;
  comes_to = IsRecording program inputs (limits_of pages piece steps);
}
plan_of (ConvertOf program log new) = made new log_mark (program ∷ log ∷ []) (λ file answer. convert_answer file program log ≡ answer)
plan_of (CoreOf program log time core) = made core core_mark (program ∷ log ∷ []) (λ file answer. run_answer file program log (core_by time) ≡ answer)
plan_of (QueriesOf program log queries pipeline) =
    told (program ∷ log ∷ queries) (λ file answer. queries_answer pipeline.epoch file program log queries ≡ answer)
plan_of (BenchOf seed steps pipeline) = told [] (λ file. IsBenchAnswer seed steps (workload_length pipeline))

abbrev pub sources_of : CommandOf → List Text
sources_of command = (plan_of command).sources

abbrev pub target_of : CommandOf → Target
target_of command = (plan_of command).target

-- the content of the files comes to this answer
abbrev pub IsAnswer : CommandOf → Option (List ℕ) → Option (List ℕ) → Contents → Result (List ℕ) Refusal → Type 0
IsAnswer command = (plan_of command).comes_to

abbrev pub Unless : Bool → Type 0 → Type 0
Unless true P = Unit {0}
Unless false P = P

-- what holds where a command never reads the clock: all but a recording
abbrev pub IfUntimed : CommandOf → Type 0 → Type 0
IfUntimed command P = Unless (plan_of command).is_timed P

-- ---- the same of the command that words stand for, if they stand for one

abbrev pub target_in : Option CommandOf → Target
target_in None = ToOutput
target_in (Some command) = target_of command

abbrev pub mark_in : Option CommandOf → List ℕ
mark_in None = log_mark
mark_in (Some command) = (plan_of command).mark

-- all files, in the order in which they are opened; none where the words stand for no command
abbrev pub files_of : Option CommandOf → List Text
files_of None = []
files_of (Some command) = sources_of command ++ written_in (target_of command)

abbrev pub IfUntimedIn : Option CommandOf → Type 0 → Type 0
IfUntimedIn None P = P
IfUntimedIn (Some command) P = IfUntimed command P
