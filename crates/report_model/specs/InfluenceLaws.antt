-- What is always true of influence.
use Rattle.std.specs.Prelude.{◌≡◌, ◌↔◌, List, Any, Contains}
use Rattle.flow_model.specs.declared.SourceByte.{SourceByte}
use Rattle.flow_model.specs.declared.SinkPoint.{SinkPoint}
use Rattle.flow_model.specs.declared.StepSeen.{StepSeen}
use Rattle.report_model.specs.Query.{Query}
use Rattle.report_model.specs.Rows.{Row, rows}
use Rattle.report_model.specs.Influence.{Reach, influence}

-- a row of the output byte or point lists the source byte
abbrev pub IsListed : SinkPoint → SourceByte → List Row → Type 0
IsListed s b rs = Any (λ (r : Row). (r.sink ≡ s) × Contains r.sources b) rs

-- the source byte stands there with the output byte or point
abbrev pub HasReached : SourceByte → SinkPoint → List Reach → Type 0
HasReached b s rs = Any (λ (r : Reach). (r.source ≡ b) × Contains r.sinks s) rs

-- a source byte, and an output byte or point, stand together in the influence exactly where they do in the rows
abbrev pub InfluenceTurnsRows : Type 0
InfluenceTurnsRows = (q : Query) (trace : List StepSeen) (s : SinkPoint) (b : SourceByte) → HasReached b s (influence q trace) ↔ IsListed s b (rows q trace)
