-- The summaries of the epochs of a run.
use Rattle.std.specs.Prelude.{◌≡◌, ℕ, List, ◌∷◌, length, All}
use Rattle.flow_model.specs.declared.StepSeen.{StepSeen}
use Rattle.flow_model.specs.Ranges.{IsInRange}
use Rattle.report_model.specs.Query.{Query, AreLocated}
use Rattle.epoch_model.specs.Cutting.{IsCutting}
use Rattle.epoch_model.specs.Summary.{Summary, AreSummaries}
use Rattle.summary_join.specs.First.{FirstFound, IsFirstFound}

-- a query over a trace, and where the trace is cut
pub record CutTrace : Type 0 where
  pub query : Query
  pub trace : List StepSeen
  pub cuts : List ℕ

-- es are the summaries of its epochs, in order; its steps are in range, and the query's points at locations
pub record AreOfRun (run : CutTrace) (es : List Summary) : Type 0 where
  pub in_range : All IsInRange run.trace
  pub located : AreLocated run.query.points
  pub cutting : IsCutting (length run.trace) run.cuts
  pub summaries : AreSummaries run.query run.trace 0 run.cuts es

-- the first of its epochs was found so, and es are the summaries of the later ones, in order
pub record AreOfRunAfter (run : CutTrace) (first : FirstFound) (es : List Summary) : Type 0 where
  pub in_range : All IsInRange run.trace
  pub located : AreLocated run.query.points
  pub cutting : IsCutting (length run.trace) run.cuts
  pub past_first : ℕ
  pub later : List ℕ
  pub cuts_are : run.cuts ≡ past_first ∷ later
  pub first_found : IsFirstFound run.query run.trace past_first first
  pub summaries : AreSummaries run.query run.trace past_first later es

-- es are the summaries of epochs that follow one another in some trace, whose steps are in range, for a query whose points
-- are at locations
pub record AreOfStretch (es : List Summary) : Type 0 where
  pub query : Query
  pub trace : List StepSeen
  pub start : ℕ
  pub cuts : List ℕ
  pub in_range : All IsInRange trace
  pub located : AreLocated query.points
  pub summaries : AreSummaries query trace start cuts es
