-- What each status of the program says. `command` is what the words stand for, and `change` is what the store, the output and the
-- clock show before the call and after it.
use Rattle.std.specs.Prelude.{◌≡◌, ◌⊎◌, ◌≤◌, ◌^◌, ℕ, List, length, not, Option, Some, None, IsSome, Result}
use Rattle.jet_words.specs.Commands.{CommandOf, AnalysisOf, ProductOf, StacksOf, DecisionsOf, PageOf, RecordOf, ConvertOf, CoreOf, QueriesOf, BenchOf}
use Rattle.log_model.specs.declared.Version.TheVariants.{Two}
use Rattle.log_model.specs.Logs.{log_text}
use Rattle.jet_refusal.specs.declared.refusal.Refusal.{Refusal}
use Rattle.jet_refusal.specs.Refusals.{status_of, line_of}
use Rattle.jet_refusal.specs.Causes.{IsOwedTo}
use Rattle.jet_model.specs.Contents.{Contents}
use Rattle.jet_model.specs.Headline.{IsGivenByQuery, AreReportsOf, IsGivenBy, IsConversionOf, IsRecordingOf, IsShort, AreShort, AreAllShort, HasFewEpochs, HasFewIfTold}
use Rattle.page_data.specs.Page.{page_report}
use Rattle.order_gateway.specs.Answer.{IsBenchOf}
use Rattle.jet_commands.specs.Answers.{OfClockAnswers, given_by, decisions_by, made_by, stacks_by, core_by, named, limits_of, workload_length}
use Rattle.jet_commands.specs.Plans.{IsAnswer, Unless, plan_of}
use Rattle.outer_io.specs.Outside.{Change, IfTold, IsFaultless, IsUndisturbed}
use Rattle.command_parts.specs.Saying.{status_after}
use Rattle.jet_commands.specs.Ending.{WritesWhole, WritesPart, IsUnasked, causes_of}

-- the program ends with 0, or with one of 2 to 11
abbrev pub IsStatus : ℕ → Type 0
IsStatus status = (status ≡ 0) ⊎ ((2 ≤ status) × (status ≤ 11))

-- ---- 0: nothing failed, and the text that the words want was written whole

-- the text is what a query gives of a run, as its report, its decisions, or its page; what is made of a run, as its
-- numbers, or its stacks; the log of a run, by the clock's answers; a log in version 2; a core file; the reports of several queries; or the numbers
-- of the workload's run
abbrev pub IsWanted : CommandOf → Change → Contents → List ℕ → Type 0
IsWanted (AnalysisOf listing program log query pipeline) change file text =
    IsGivenByQuery (given_by listing) file (named program log query) text
IsWanted (ProductOf product program log) change file text = IsGivenBy file program log (made_by product) text
IsWanted (StacksOf program log times) change file text = IsGivenBy file program log (stacks_by times) text
IsWanted (DecisionsOf program log query) change file text = IsGivenByQuery decisions_by file (named program log query) text
IsWanted (PageOf program log query page pipeline) change file text =
    IsGivenByQuery page_report file (named program log query) text
IsWanted (RecordOf program log inputs pages piece steps) change file text =
    OfClockAnswers change.before.heard change.after.heard (λ answers. IsRecordingOf file program inputs (limits_of pages piece steps) answers text)
IsWanted (ConvertOf program log new) change file text = IsConversionOf file program log text
IsWanted (CoreOf program log time core) change file text = IsGivenBy file program log (core_by time) text
IsWanted (QueriesOf program log queries pipeline) change file text = AreReportsOf file program log queries text
IsWanted (BenchOf seed steps pipeline) change file text = IsBenchOf seed steps (workload_length pipeline) text

abbrev pub IsDone : Option CommandOf → Change → Type 0
IsDone None change = ⊥
IsDone (Some command) change = IsFaultless change × IfTold change (WritesWhole command change (IsWanted command change))

-- at most its first bytes were
abbrev pub IsDoneInPart : Option CommandOf → Change → Type 0
IsDoneInPart None change = ⊥
IsDoneInPart (Some command) change = IfTold change (WritesPart command change (IsWanted command change))

-- ---- 2 to 11: the command is refused

-- the status is that of a refusal, which has its cause; `says` holds of the line that is said, and it is the refusal's; and before
-- most refusals the clock gave no answer
pub record IsRefused (status : ℕ) (command : Option CommandOf) (says : List ℕ → Type 0) (change : Change) : Type 0 where
  pub refusal : Refusal
  pub status_is : status ≡ status_of refusal
  pub line_is : says (line_of refusal)
  pub has_cause : IsOwedTo (causes_of command change refusal) refusal
  pub unasked : IsUnasked change.before.heard change.after.heard refusal

-- ---- where the outside doesn't fail, the files decide; or memory is out

-- where the clock is read, it tells its answers
abbrev pub IsHeard : CommandOf → Change → Type 0
IsHeard command change = Unless (not (plan_of command).is_timed) (IsSome change.after.heard)

-- the status is that of what the files come to
abbrev pub IsDecided : ℕ → Option CommandOf → Change → Type 0
IsDecided status None change = Unit {0}
IsDecided status (Some command) change = (u : IsUndisturbed change) → IsHeard command change → (answer : Result (List ℕ) Refusal)
    → IsAnswer command change.before.heard change.after.heard u.told.file answer → (status ≡ status_after answer) ⊎ (status ≡ 10)

-- the files that are read have at most 2 ^ 26 bytes each, and so has the log of the workload's run; and a run that is analysed
-- has at most 4096 epochs of the length that the words tell, if they tell one
abbrev pub AreWithinLimits : (command : CommandOf) (change : Change) (file : Contents) (text : List ℕ)
    → IsWanted command change file text → Type 0
AreWithinLimits (AnalysisOf listing program log query pipeline) change file text is =
    AreShort file (named program log query) × HasFewIfTold pipeline.epoch is.log
AreWithinLimits (ProductOf product program log) change file text is = IsShort (file program) × IsShort (file log)
AreWithinLimits (StacksOf program log times) change file text is = IsShort (file program) × IsShort (file log)
AreWithinLimits (DecisionsOf program log query) change file text is = AreShort file (named program log query)
AreWithinLimits (PageOf program log query page pipeline) change file text is =
    AreShort file (named program log query) × HasFewIfTold pipeline.epoch is.log
AreWithinLimits (RecordOf program log inputs pages piece steps) change file text is =
    IsShort (file program) × AreAllShort file inputs
AreWithinLimits (ConvertOf program log new) change file text is = IsShort (file program) × IsShort (file log)
AreWithinLimits (CoreOf program log time core) change file text is = IsShort (file program) × IsShort (file log)
AreWithinLimits (QueriesOf program log queries pipeline) change file text is =
    IsShort (file program) × IsShort (file log) × AreAllShort file queries × HasFewIfTold pipeline.epoch is.log
AreWithinLimits (BenchOf seed steps pipeline) change file text is =
    (length (log_text Two is.log) ≤ 2 ^ 26) × HasFewEpochs (workload_length pipeline) is.log

-- files that have what the words want, and are within the limits, are answered with 0
abbrev pub IsComplete : ℕ → Option CommandOf → Change → Type 0
IsComplete status None change = Unit {0}
IsComplete status (Some command) change = (u : IsUndisturbed change) → IsHeard command change → (text : List ℕ)
    → (is : IsWanted command change u.told.file text) → AreWithinLimits command change u.told.file text is
    → (status ≡ 0) ⊎ (status ≡ 10)
