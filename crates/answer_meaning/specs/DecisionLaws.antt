-- Where no decision comes from bytes that differ, two runs take one path.
use Rattle.std.specs.Prelude.{◌≡◌, ℕ, ◌<◌, ◌≤◌, Bool, false, List, [], All}
use Rattle.isa.specs.Machine.{State}
use Rattle.log_model.specs.Logs.{Log, IsLog, IsBytes, steps}
use Rattle.flow_model.specs.declared.Loc.{Loc}
use Rattle.flow_model.specs.declared.Rule.{Rule}
use Rattle.flow_model.specs.declared.Rule.TheVariants.{Compute}
use Rattle.flow_model.specs.declared.SourceByte.{SourceByte}
use Rattle.flow_model.specs.Origins.{origins}
use Rattle.report_model.specs.Query.{Query, has_source}
use Rattle.report_model.specs.Rows.{rows}
use Rattle.replay_model.specs.Run.{trace}
use Rattle.replay_model.specs.Fits.{Fits}
use Rattle.record_model.specs.Recorded.{EndsWithin}
use Rattle.answer_meaning.specs.StepLaws.{SameStep}
use Rattle.answer_meaning.specs.RunLaws.{IsRun, SamePath, moment_at, content_at, byte_at_sink, byte_received, under}
use Rattle.decision_find.specs.Decides.{deciding_rule}
use Rattle.decision_find.specs.Decisions.{decided}
use Rattle.decision_find.specs.Text.{deciding_query, decided_by}
use Rattle.answer_meaning.specs.Environments.{SameAnswers}

-- none of these source bytes differs
abbrev pub NoneDiffers : (SourceByte → Bool) → List SourceByte → Type 0
NoneDiffers differs bs = All (λ x. differs x ≡ false) bs

-- two runs from one state: what differs is chosen, no decision of the first comes from what differs, and the second is
-- answered the same but for what differs
pub record IsUndecided (rule : Rule) (introduces differs : SourceByte → Bool) (s : State) (a b : Log) : Type 0 where
  pub first : IsRun a s
  pub second : IsRun b s
  pub chosen : (x : SourceByte) → introduces x ≡ false → differs x ≡ false
  pub none : All (λ d. NoneDiffers differs d.sources) (decided (under rule introduces) s a)
  pub answers : SameAnswers differs [] a.records b.records

-- as far as both go they do the same at each step
abbrev pub StepsAreSame : Rule → Type 0
StepsAreSame rule = (introduces differs : SourceByte → Bool) (s : State) (a b : Log)
    → IsUndecided rule introduces differs s a b
    → (k : ℕ) → k < steps a → k < steps b → SameStep rule (moment_at s a k) (moment_at s b k)

-- and the content of each location that comes from nothing that differs is the same
abbrev pub ContentsAreSame : Rule → Type 0
ContentsAreSame rule = (introduces differs : SourceByte → Bool) (s : State) (a b : Log)
    → IsUndecided rule introduces differs s a b
    → (t : ℕ) (l : Loc) → t ≤ steps a → t ≤ steps b
    → NoneDiffers differs (origins (under rule introduces) (trace s a) t l)
    → content_at s a t l ≡ content_at s b t l

-- where both are as long, they take one path, and received the same where nothing differs
abbrev pub PathIsSame : Rule → Type 0
PathIsSame rule = (introduces differs : SourceByte → Bool) (s : State) (a b : Log)
    → IsUndecided rule introduces differs s a b
    → steps a ≡ steps b → SamePath rule s a b

abbrev pub ReceivedIsSame : Rule → Type 0
ReceivedIsSame rule = (introduces differs : SourceByte → Bool) (s : State) (a b : Log)
    → IsUndecided rule introduces differs s a b
    → steps a ≡ steps b → (x : SourceByte) → differs x ≡ false → byte_received a x ≡ byte_received b x

-- the byte of each row is the same where nothing that the row lists differs
abbrev pub RowsAreAlike : Query → (SourceByte → Bool) → State → Log → Log → Type 0
RowsAreAlike q differs s a b =
    All (λ r. NoneDiffers differs r.sources → byte_at_sink s a r.sink ≡ byte_at_sink s b r.sink) (rows q (trace s a))

-- so the byte of a row differs only where the row lists a byte that differs
abbrev pub RowsAreSame : Rule → Type 0
RowsAreSame rule = (q : Query) (differs : SourceByte → Bool) (s : State) (a b : Log) → q.rule ≡ rule
    → IsUndecided rule (has_source q) differs s a b
    → steps a ≡ steps b → RowsAreAlike q differs s a b

-- ---- the end

-- by compute two runs that are cut off after as many steps, unless they end by themselves, are as long
abbrev pub LengthsAreSame : Type 0
LengthsAreSame = (introduces differs : SourceByte → Bool) (s : State) (a b : Log)
    → IsUndecided Compute introduces differs s a b
    → (n : ℕ) → EndsWithin n a.end → EndsWithin n b.end → steps a ≡ steps b

-- and end alike: by one exit, with one code, or by one trap, or both cut off
abbrev pub EndsAreSame : Type 0
EndsAreSame = (introduces differs : SourceByte → Bool) (s : State) (a b : Log)
    → IsUndecided Compute introduces differs s a b
    → (n : ℕ) → EndsWithin n a.end → EndsWithin n b.end → a.end ≡ b.end

-- ---- two runs of one program

-- two logs that fit one program, in windows as large
pub record AreRuns (program : List ℕ) (a b : Log) : Type 0 where
  pub bytes : IsBytes program
  pub first : IsLog a
  pub second : IsLog b
  pub fits : Fits program a
  pub fits_too : Fits program b
  pub pages : a.pages ≡ b.pages

-- what is left of two runs on one path: the end, the steps, and each row but for what comes from bytes that differ
pub record AreAlikeBut (q : Query) (differs : SourceByte → Bool) (s : State) (a b : Log) : Type 0 where
  pub path : SamePath Compute s a b
  pub end : a.end ≡ b.end
  pub rows_are : RowsAreAlike q differs s a b

-- where none of the decisions that a query lists comes from a byte that differs, and the query chooses all that differs,
-- another run of the program that is answered the same but for these bytes is the same but for the rows that, by the rule
-- of decisions, list such a byte. So it is by compute, and by the rules whose decisions are compute's
abbrev pub NoInfluence : Type 0
NoInfluence = (program : List ℕ) (a b : Log) (runs : AreRuns program a b) (q : Query) (differs : SourceByte → Bool)
    → deciding_rule q.rule ≡ Compute
    → ((x : SourceByte) → has_source q x ≡ false → differs x ≡ false)
    → All (λ d. NoneDiffers differs d.sources) (decided_by q runs.fits.start a)
    → SameAnswers differs [] a.records b.records
    → (n : ℕ) → EndsWithin n a.end → EndsWithin n b.end
    → AreAlikeBut (deciding_query q) differs runs.fits.start a b
