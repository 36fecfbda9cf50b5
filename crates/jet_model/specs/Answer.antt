-- What the files of a command come to: the text that it writes, or the first refusal.
use Rattle.std.specs.Prelude.{◌≡◌, ℕ, ◌≤◌, ◌^◌, nat_lt, if◌then◌else◌, List, length, map, Option, Some, None, Result, Ok, Err}
use Rattle.std.specs.List.{range_with_len}
use Rattle.std.specs.Option.{ok_or}
use Rattle.std.specs.Str.{bytes_eq}
use Rattle.isa.specs.Machine.{State}
use Rattle.elf_model.specs.Image.{Image}
use Rattle.elf_model.specs.Window.{start_of}
use Rattle.log_model.specs.declared.Version.TheVariants.{Two}
use Rattle.log_model.specs.Logs.{Log, IsBytes, steps, log_text}
use Rattle.flow_model.specs.declared.Rule.{Rule}
use Rattle.report_model.specs.Query.{Query}
use Rattle.report_model.specs.Together.{first_other_rule}
use Rattle.replay_model.specs.declared.Divergence.{Divergence}
use Rattle.replay_model.specs.Comparison.{divergence}
use Rattle.epoch_model.specs.ByLength.{epoch_count}
use Rattle.record_model.specs.Counts.{capped}
use Rattle.record_model.specs.Recorded.{Setting, IsRecorded}
use Rattle.sha2.specs.Sha256.{sha256}
use Rattle.jet_refusal.specs.declared.refusal.Refusal.{Refusal}
use Rattle.jet_refusal.specs.declared.refusal.Refusal.TheVariants as refusal
use Rattle.jet_model.specs.Outcomes.{and_then, AndThen}
use Rattle.jet_model.specs.Report.{over_trace, reports_of}
use Rattle.jet_model.specs.Contents.{Contents, Names, Program, Run, program_at, query_at, queries_at, run_at, inputs_at}

-- ---- a log that fits its program

-- the log keeps the program's digest
abbrev pub digest_check : List ℕ → Log → Result (Unit {0}) Refusal
digest_check program log =
    if bytes_eq log.digest (sha256 program) then Ok tt else Err (refusal.Program log.digest (sha256 program))

-- the state that a run of the image begins in, where a window of so many pages can hold it
abbrev pub start_in : Image → ℕ → Result State Refusal
start_in im pages = ok_or (start_of im pages) (refusal.Window pages)

-- the state, where the run that begins in it doesn't diverge
abbrev pub unless_diverged : State → Option Divergence → Result State Refusal
unless_diverged start None = Ok start
unless_diverged start (Some d) = Err (refusal.Diverged d)

-- the state that the log's run of the program begins in, where the log fits the program
abbrev pub fitting_start : Program → Log → Result State Refusal
fitting_start program log =
    and_then (digest_check program.bytes log) (λ same.
    and_then (start_in program.image log.pages) (λ start.
    unless_diverged start (divergence start log)))

-- ---- what a program, a log and queries come to

-- the log's run has at most 4096 epochs of this length
abbrev pub epochs_check : ℕ → Log → Result (Unit {0}) Refusal
epochs_check epoch log = let count = epoch_count (steps log) epoch in
    if nat_lt 4096 count then Err (refusal.TooManyEpochs count) else Ok tt

-- the same of the length that the words tell. Where they tell none there are few: no more than workers
abbrev pub told_check : Option ℕ → Log → Result (Unit {0}) Refusal
told_check None log = Ok tt
told_check (Some epoch) log = epochs_check epoch log

-- what is made of the run from this state, where it has few epochs of the length that is told
abbrev pub cut_answer : {A : Type 0} → Option ℕ → State → Log → (State → Log → A) → Result A Refusal
cut_answer told start log given =
    and_then (told_check told log) (λ few.
    Ok (given start log))

-- a text that is made of a run whose log fits its program, where it has few epochs of the length that is told
abbrev pub analysed_answer : Option ℕ → Run → (State → Log → List ℕ) → Result (List ℕ) Refusal
analysed_answer told run text =
    and_then (fitting_start run.program run.log) (λ start.
    cut_answer told start run.log text)

-- the text that a query gives of a run
abbrev pub query_answer : (Query → State → Log → List ℕ) → Option ℕ → Contents → Names → Result (List ℕ) Refusal
query_answer given told file names =
    and_then (run_at file names.program names.log) (λ run.
    and_then (query_at file names.query) (λ q.
    analysed_answer told run (given q)))

abbrev pub unless_other_rule : Option (Rule × ℕ × Rule) → Result (Unit {0}) Refusal
unless_other_rule None = Ok tt
unless_other_rule (Some (first, index, other)) = Err (refusal.Rules first index other)

-- several queries have one rule
abbrev pub rules_check : List Query → Result (Unit {0}) Refusal
rules_check qs = unless_other_rule (first_other_rule qs)

-- the reports of several queries. All of them are read before their rules are compared
abbrev pub queries_answer : Option ℕ → Contents → List ℕ → List ℕ → List (List ℕ) → Result (List ℕ) Refusal
queries_answer told file program log names =
    and_then (run_at file program log) (λ run.
    and_then (queries_at file names) (λ qs.
    and_then (rules_check qs) (λ same.
    analysed_answer told run (over_trace (reports_of qs)))))

-- ---- what a program and a log come to

-- a text that is made of a run whose log fits its program
abbrev pub text_answer : Run → (State → Log → List ℕ) → Result (List ℕ) Refusal
text_answer run text = and_then (fitting_start run.program run.log) (λ start. Ok (text start run.log))

abbrev pub run_answer : Contents → List ℕ → List ℕ → (State → Log → List ℕ) → Result (List ℕ) Refusal
run_answer file program log text = and_then (run_at file program log) (λ run. text_answer run text)

-- ---- a log that is written

-- the log's text, in version 2, which is to have at most 2 ^ 26 bytes
abbrev pub limited_text : Log → Result (List ℕ) Refusal
limited_text log = let text = log_text Two log in
    if nat_lt (2 ^ 26) (length text) then Err (refusal.LogTooLong (capped (length text))) else Ok text

-- the log of a fitting run in version 2
abbrev pub convert_answer : Contents → List ℕ → List ℕ → Result (List ℕ) Refusal
convert_answer file program log =
    and_then (run_at file program log) (λ run.
    and_then (fitting_start run.program run.log) (λ start.
    limited_text run.log))

-- ---- what a recording comes to

-- how a run is recorded: the window's pages, the greatest number of bytes that a read gets, and that of the run's steps
pub record Limits : Type 0 where
  pub pages : ℕ
  pub piece : ℕ
  pub steps : ℕ

-- a program and the bytes of its inputs
pub record Source : Type 0 where
  pub program : Program
  pub inputs : List (List ℕ)

abbrev pub source_at : Contents → List ℕ → List (List ℕ) → Result Source Refusal
source_at file program_name input_names =
    and_then (program_at file program_name) (λ program.
    and_then (inputs_at file input_names) (λ inputs.
    Ok (record { program = program; inputs = inputs })))

abbrev pub setting_of : Source → Limits → Setting
setting_of source limits = record {
  program = source.program.bytes;
  pages = limits.pages;
  inputs = source.inputs;
  piece = limits.piece;
  steps = limits.steps;
}

-- the answer is the log of the run, where the clock gave these answers
pub record IsCaptured (setting : Setting) (answers : List ℕ) (answer : Result (List ℕ) Refusal) : Type 0 where
  pub log : Log
  pub recorded : IsRecorded setting answers log
  pub text : answer ≡ limited_text log

-- the same, once a window is found to hold the image
abbrev pub IsCaptureAnswer : Source → Limits → List ℕ → Result (List ℕ) Refusal → Type 0
IsCaptureAnswer source limits answers answer =
    AndThen (start_in source.program.image limits.pages) (λ start. IsCaptured (setting_of source limits) answers) answer

-- the same, once the files are read
abbrev pub IsRecordAnswer : Contents → List ℕ → List (List ℕ) → Limits → List ℕ → Result (List ℕ) Refusal → Type 0
IsRecordAnswer file program inputs limits answers answer =
    AndThen (source_at file program inputs) (λ source. IsCaptureAnswer source limits answers) answer

-- ---- what can be recorded

-- the contents of files are bytes
abbrev pub HoldsBytes : Contents → Type 0
HoldsBytes file = (name bytes : List ℕ) → file name ≡ Some bytes → IsBytes bytes

-- the window and the number of steps are in range
pub record AreInRange (limits : Limits) : Type 0 where
  pub pages : (1 ≤ limits.pages) × (limits.pages ≤ 4096)
  pub steps : limits.steps ≤ 2 ^ 40

-- what a recording comes to in which the clock gave the first of its answers, in turn
pub record RecordAnswer (file : Contents) (program : List ℕ) (inputs : List (List ℕ)) (limits : Limits) (clock : ℕ → ℕ) : Type 0 where
  pub asked : ℕ
  pub answer : Result (List ℕ) Refusal
  pub is_answer : IsRecordAnswer file program inputs limits (map clock (range_with_len 0 asked)) answer
