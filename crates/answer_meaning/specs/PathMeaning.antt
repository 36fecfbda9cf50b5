-- What a path means of the contents of its locations, along a run.
use Rattle.std.specs.Prelude.{◌≡◌, ℕ, ◌+◌, ◌≤◌, List, Some, All}
use Rattle.isa.specs.Machine.{State}
use Rattle.isa.specs.Encodings.{Fits}
use Rattle.log_model.specs.Logs.{Log, steps}
use Rattle.flow_model.specs.declared.Loc.{Loc}
use Rattle.flow_model.specs.declared.Rule.{Rule}
use Rattle.flow_model.specs.declared.SourceByte.{SourceByte}
use Rattle.flow_model.specs.declared.SinkPoint.{SinkPoint}
use Rattle.flow_model.specs.Ranges.{IsLocation}
use Rattle.report_model.specs.Query.{Query, AreLocated}
use Rattle.replay_model.specs.Run.{trace}
use Rattle.answer_meaning.specs.StepLaws.{OnlyMoves}
use Rattle.answer_meaning.specs.RunLaws.{IsRun, content_at, byte_received}
use Rattle.path_find.specs.declared.Arrival.{Arrival}
use Rattle.path_find.specs.Paths.{IsPath}
use Rattle.path_find.specs.FirstPair.{PathTo, path_to}

-- the instruction of each step of a run has a word
abbrev pub StepsFit : Type 0
StepsFit = (log : Log) (s : State) → IsRun log s → All (λ x. Fits x.instr) (trace s log)

-- each arrival of a path to a location is at a location
abbrev pub PathIsOfLocations : Type 0
PathIsOfLocations = (log : Log) (s : State) → IsRun log s → (rule : Rule) (b : SourceByte) (t : ℕ) (l : Loc) (p : List Arrival)
    → IsLocation l → IsPath rule b (trace s log) t l p → All (λ a. IsLocation a.loc) p

-- the location of an arrival has this byte after its step
abbrev pub HasByte : State → Log → ℕ → Arrival → Type 0
HasByte s log v a = content_at s log (a.number + 1) a.loc ≡ v

-- under a rule by which content is only moved the end of a path has the byte that was received, and so has each
-- location on it when the content arrived
abbrev pub PathHoldsByte : Type 0
PathHoldsByte = (log : Log) (s : State) → IsRun log s → (rule : Rule) → OnlyMoves rule
    → (b : SourceByte) (t : ℕ) (l : Loc) (p : List Arrival) → t ≤ steps log → IsLocation l
    → IsPath rule b (trace s log) t l p
    → (content_at s log t l ≡ byte_received log b) × All (HasByte s log (byte_received log b)) p

-- so it is of each path that is told: of an output byte, at the time of its write and at the location that it was written
-- from, or of a point
abbrev pub ToldPathHoldsByte : Type 0
ToldPathHoldsByte = (log : Log) (s : State) → IsRun log s → (q : Query) → OnlyMoves q.rule → AreLocated q.points
    → (name : SinkPoint) (b : SourceByte) (p : PathTo) → path_to q (trace s log) name b ≡ Some p
    → (content_at s log p.sink.time p.sink.loc ≡ byte_received log b) × All (HasByte s log (byte_received log b)) p.arrivals
