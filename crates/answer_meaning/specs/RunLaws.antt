-- What the origins of a location mean of its content, along a run.
use Rattle.std.specs.Prelude.{◌≡◌, ℕ, ◌<◌, ◌≤◌, Bool, false, List, [], ◌∷◌, slice_index, None, All, Contains}
use Rattle.isa.specs.Machine.{State}
use Rattle.log_model.specs.Logs.{Log, IsLog, IsBytes, steps}
use Rattle.log_model.specs.Moved.{received, written}
use Rattle.flow_model.specs.declared.Loc.{Loc}
use Rattle.flow_model.specs.declared.Rule.{Rule}
use Rattle.flow_model.specs.declared.Rule.TheVariants.{Compute}
use Rattle.flow_model.specs.declared.SourceByte.{SourceByte}
use Rattle.flow_model.specs.declared.SinkByte.{SinkByte}
use Rattle.flow_model.specs.declared.SinkPoint.{SinkPoint}
use Rattle.flow_model.specs.declared.SinkPoint.TheVariants.{Out, At}
use Rattle.flow_model.specs.declared.StepSeen.{StepSeen}
use Rattle.flow_model.specs.Origins.{Policy, origins}
use Rattle.flow_model.specs.Ranges.{IsLocation}
use Rattle.report_model.specs.Query.{Query, AreLocated, has_source}
use Rattle.report_model.specs.Rows.{rows}
use Rattle.replay_model.specs.Run.{Moment, start, moment_after, trace}
use Rattle.replay_model.specs.Comparison.{divergence}
use Rattle.replay_model.specs.Fits.{Fits}
use Rattle.record_model.specs.States.{IsSound}
use Rattle.answer_meaning.specs.Content.{content}
use Rattle.answer_meaning.specs.StepLaws.{OnlyMoves, SameStep}

-- the byte that a log keeps of a source byte, and of an output byte
abbrev pub byte_received : Log → SourceByte → ℕ
byte_received log b = slice_index (received b.channel log.records) b.offset

abbrev pub byte_written : Log → SinkByte → ℕ
byte_written log b = slice_index (written b.channel log.records) b.offset

-- the run of a log, in which nothing differs, from a sound state
pub record IsRun (log : Log) (s : State) : Type 0 where
  pub form : IsLog log
  pub sound : IsSound s
  pub agrees : divergence s log ≡ None

abbrev pub moment_at : State → Log → ℕ → Moment
moment_at s log t = moment_after t (start s log)

-- the content of a location after t steps
abbrev pub content_at : State → Log → ℕ → Loc → ℕ
content_at s log t l = content (moment_at s log t).state l

-- the byte of a row: the output byte, or the content of a point at its time
abbrev pub byte_at_sink : State → Log → SinkPoint → ℕ
byte_at_sink s log (Out b) = byte_written log b
byte_at_sink s log (At p) = content_at s log p.time p.loc

abbrev pub under : Rule → (SourceByte → Bool) → Policy
under rule introduces = record { rule = rule; introduces = introduces }

-- no origin, or one whose byte v is
pub data IsCopied (log : Log) (v : ℕ) (bs : List SourceByte) : Type 0 where
  NoOrigin : bs ≡ [] → IsCopied log v bs
  OneOrigin : (b : SourceByte) → bs ≡ b ∷ [] → v ≡ byte_received log b → IsCopied log v bs

-- two runs from one state take one path: they do the same at each step, whatever bytes they read
pub record SamePath (rule : Rule) (s : State) (a b : Log) : Type 0 where
  pub as_long : steps a ≡ steps b
  pub each : (k : ℕ) → k < steps a → SameStep rule (moment_at s a k) (moment_at s b k)

-- two logs have the same byte at each of these, and at each that introduces no taint
abbrev pub AlikeAt : Log → Log → List SourceByte → Type 0
AlikeAt a b bs = All (λ x. byte_received a x ≡ byte_received b x) bs

abbrev pub AlikeElsewhere : (SourceByte → Bool) → Log → Log → Type 0
AlikeElsewhere introduces a b = (x : SourceByte) → introduces x ≡ false → byte_received a x ≡ byte_received b x

-- ---- the laws

-- a log that fits a program makes a run: the state that a program of bytes begins in is sound
abbrev pub FitsMakesRun : Type 0
FitsMakesRun = (program : List ℕ) (log : Log) → IsBytes program → IsLog log → (f : Fits program log) → IsRun log f.start

-- under a rule by which content is only moved each location has at most one origin at each time, and where it has one,
-- its content is the byte received there
abbrev pub CopiedContents : Type 0
CopiedContents = (log : Log) (s : State) → IsRun log s → (rule : Rule) → OnlyMoves rule
    → (introduces : SourceByte → Bool) (t : ℕ) (l : Loc) → t ≤ steps log → IsLocation l
    → IsCopied log (content_at s log t l) (origins (under rule introduces) (trace s log) t l)

-- and so has each row of a report, of an output byte or of a point
abbrev pub CopiedRows : Type 0
CopiedRows = (log : Log) (s : State) → IsRun log s → (q : Query) → OnlyMoves q.rule → AreLocated q.points
    → All (λ r. IsCopied log (byte_at_sink s log r.sink) r.sources) (rows q (trace s log))

-- where two runs take one path and received the same bytes apart from those that introduce taint, and at all origins of
-- a location by the rule, its contents agree
abbrev pub DeterminedContents : Rule → Type 0
DeterminedContents rule = (a b : Log) (s : State) → IsRun a s → IsRun b s → SamePath rule s a b → (introduces : SourceByte → Bool) → AlikeElsewhere introduces a b
    → (t : ℕ) (l : Loc) → t ≤ steps a → AlikeAt a b (origins (under rule introduces) (trace s a) t l) → content_at s a t l ≡ content_at s b t l

-- and where they received the same at all sources of a row, so do its bytes
abbrev pub DeterminedRows : Rule → Type 0
DeterminedRows rule = (a b : Log) (s : State) → IsRun a s → IsRun b s → SamePath rule s a b → (q : Query) → q.rule ≡ rule → AlikeElsewhere (has_source q) a b
    → All (λ r. AlikeAt a b r.sources → byte_at_sink s a r.sink ≡ byte_at_sink s b r.sink) (rows q (trace s a))

-- two runs that take one path, addresses of loads and all, have one trace
abbrev pub SamePathSameTrace : Type 0
SamePathSameTrace = (a b : Log) (s : State) → SamePath Compute s a b → trace s a ≡ trace s b

-- what is an origin by one rule is one by another, of each location at each time of each trace
abbrev pub OriginsWithin : Rule → Rule → Type 0
OriginsWithin few many = (introduces : SourceByte → Bool) (trace : List StepSeen) (t : ℕ) (l : Loc) (b : SourceByte)
    → Contains (origins (under few introduces) trace t l) b → Contains (origins (under many introduces) trace t l) b
