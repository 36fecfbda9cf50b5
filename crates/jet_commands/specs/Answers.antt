-- What the files of a command come to: the text that it writes, or the refusal.
use Rattle.std.specs.Prelude.{◌≡◌, ℕ, List, Option, None, unwrap_or, Result, Ok, Err}
use Rattle.outer_io.specs.Files.{Text}
use Rattle.outer_io.specs.Tells.{Tells, Gains}
use Rattle.isa.specs.Machine.{State}
use Rattle.log_model.specs.Logs.{Log}
use Rattle.jet_words.specs.declared.command.Listing.{Listing}
use Rattle.jet_words.specs.declared.command.Listing.TheVariants.{BySink, BySource, ByPath, ByRange}
use Rattle.jet_words.specs.declared.command.Product.{Product}
use Rattle.jet_words.specs.declared.command.Product.TheVariants.{Numbers, Calls, Input, Output}
use Rattle.jet_words.specs.declared.command.Pipeline.{Pipeline}
use Rattle.jet_refusal.specs.declared.refusal.Refusal.{Refusal}
use Rattle.report_model.specs.Query.{Query, Alike}
use Rattle.report_model.specs.Rows.{rows}
use Rattle.report_model.specs.Together.{together, first_other_rule}
use Rattle.replay_model.specs.Run.{trace}
use Rattle.jet_model.specs.Outcomes.{and_then}
use Rattle.jet_model.specs.Contents.{Contents, Names, Run}
use Rattle.jet_model.specs.Report.{over_trace, report_of, influence_of, reports_of}
use Rattle.path_find.specs.Answer.{path_report}
use Rattle.range_report.specs.Text.{ranges_report}
use Rattle.decision_find.specs.Text.{decisions_report}
use Rattle.page_data.specs.Page.{page_report}
use Rattle.jet_model.specs.Answer.{Limits, Source, IsCaptureAnswer, IsRecordAnswer, analysed_answer, rules_check, fitting_start, told_check, limited_text}
use Rattle.jet_refusal.specs.Causes.{IsOwedTo}
use Rattle.command_parts.specs.Outcome.{by_reading}
use Rattle.jet_commands.specs.Outcome.{AskAlike}
use Rattle.core_file.specs.CoreFile.{core_file}
use Rattle.run_output.specs.Summary.{summary_text}
use Rattle.run_output.specs.Input.{input}
use Rattle.run_output.specs.Output.{output}
use Rattle.run_output.specs.Calls.{calls_text}
use Rattle.run_output.specs.Stacks.{stacks_text}
use Rattle.jet_commands.specs.Targets.{Target, ToOutput, ToFile}
use Rattle.jet_commands.specs.declared.tellings.Format.{Format}
use Rattle.jet_commands.specs.declared.tellings.Format.TheVariants.{Listed, Page}
use Rattle.jet_commands.specs.declared.tellings.Making.{Making}
use Rattle.jet_commands.specs.declared.tellings.Making.TheVariants.{Product as OfProduct, Stacks, Core, Converted}

abbrev pub named : Text → Text → Text → Names
named program log query = record { program = program; log = log; query = query }

abbrev pub limits_of : ℕ → ℕ → ℕ → Limits
limits_of pages piece steps = record { pages = pages; piece = piece; steps = steps }

-- the clock gave some answers, of which this holds; `heard` and `heard_after` are what it told before and after
pub record OfClockAnswers (heard heard_after : Option (List ℕ)) (of_answers : List ℕ → Type 0) : Type 0 where
  pub answers : List ℕ
  pub gained : Tells heard heard_after (Gains answers)
  pub holds : of_answers answers

-- a run that is captured comes to this answer
abbrev pub IsCapture : Source → Limits → Option (List ℕ) → Option (List ℕ) → Result (List ℕ) Refusal → Type 0
IsCapture source limits heard heard_after answer = OfClockAnswers heard heard_after (λ answers. IsCaptureAnswer source limits answers answer)

-- the same of a program and inputs that are read
abbrev pub IsRecording : Text → List Text → Limits → Option (List ℕ) → Option (List ℕ) → Contents → Result (List ℕ) Refusal → Type 0
IsRecording program inputs limits heard heard_after file answer =
    OfClockAnswers heard heard_after (λ answers. IsRecordAnswer file program inputs limits answers answer)

-- the length of the epochs of the workload's run
abbrev pub workload_length : Pipeline → ℕ
workload_length pipeline = unwrap_or pipeline.epoch 4096

-- the text that a query gives of a run: its report, a line for each sink; its influence, a line for each source byte; the path
-- of the first source byte that its report lists; or the report in ranges
abbrev pub given_by : Listing → Query → State → Log → List ℕ
given_by BySink q start log = report_of q (trace start log)
given_by BySource q start log = influence_of q (trace start log)
given_by ByPath q start log = path_report start log q
given_by ByRange q start log = ranges_report log (rows q (trace start log))

-- what is told of the rows of a query: one of these texts, or the page, which goes into a file
abbrev pub format_text : Format → Query → State → Log → List ℕ
format_text (Listed listing) = given_by listing
format_text (Page name) = page_report

abbrev pub format_target : Format → Target
format_target (Listed listing) = ToOutput
format_target (Page name) = ToFile name.now

-- where a source byte of a query could turn a run, as text
abbrev pub decisions_by : Query → State → Log → List ℕ
decisions_by q start log = decisions_report start log q

-- the text that is made of a whole run: its numbers, its calls, or what it read or wrote on a channel
abbrev pub made_by : Product → State → Log → List ℕ
made_by Numbers start log = summary_text log
made_by Calls start log = calls_text log
made_by (Input channel) start log = input channel log
made_by (Output channel) start log = output channel log

-- the calls in progress at these times
abbrev pub stacks_by : List ℕ → State → Log → List ℕ
stacks_by times start log = stacks_text start log times

-- the state after so many steps, as a core file
abbrev pub core_by : ℕ → State → Log → List ℕ
core_by time start log = core_file start log time

-- what is made of a run without a query: one of these texts; a core file; or a log in version 2, if that isn't too long
abbrev pub made_of : Making → State → Log → Result (List ℕ) Refusal
made_of (OfProduct product) start log = Ok (made_by product start log)
made_of (Stacks times) start log = Ok (stacks_by times.now start log)
made_of (Core name time) start log = Ok (core_by time start log)
made_of (Converted name) start log = limited_text log

abbrev pub making_target : Making → Target
making_target (OfProduct product) = ToOutput
making_target (Stacks times) = ToOutput
making_target (Core name time) = ToFile name.now
making_target (Converted name) = ToFile name.now

-- the same, if the log fits its program
abbrev pub making_answer : Making → Run → Result (List ℕ) Refusal
making_answer making run = and_then (fitting_start run.program run.log) (λ start. made_of making start run.log)

-- the outcome of work that reads no file is so, or memory is out
abbrev pub IsWorkOf : {A : Type 0} → (Result A Refusal → Type 0) → Result A Refusal → Type 0
IsWorkOf is_answer (Ok x) = is_answer (Ok x)
IsWorkOf is_answer (Err r) = IsOwedTo (by_reading (is_answer (Err r)) ⊥) r

-- ---- work for a query that is kept

-- the log fits its program, and then its run has few epochs of the length that is told
abbrev pub fits_and_is_cut : Option ℕ → Run → Result (Unit {0}) Refusal
fits_and_is_cut told run = and_then (fitting_start run.program run.log) (λ start. told_check told run.log)

-- the answer is what every query gives that asks alike
abbrev pub IsGivenAlike : (Query → State → Log → List ℕ) → Option ℕ → Run → Query → Result (List ℕ) Refusal → Type 0
IsGivenAlike given told run kept answer = (q : Query) → Alike kept q → analysed_answer told run (given q) ≡ answer

-- the reports of several queries, whose rules are compared first
abbrev pub several_answer : Option ℕ → Run → List Query → Result (List ℕ) Refusal
several_answer told run qs = and_then (rules_check qs) (λ same. analysed_answer told run (over_trace (reports_of qs)))

-- the answer is what all queries give that ask alike
abbrev pub AreGivenAlike : Option ℕ → Run → List Query → Result (List ℕ) Refusal → Type 0
AreGivenAlike told run kept answer = (qs : List Query) → AskAlike kept qs → several_answer told run qs ≡ answer

-- several queries have one rule, and this one asks for what any of them does
pub record IsUnion (queries : List Query) (union : Query) : Type 0 where
  pub alike : Alike union (together queries)
  pub one_rule : first_other_rule queries ≡ None
