-- A run, joined up to a cut.
use Rattle.std.specs.Prelude.{◌≡◌, ℕ, ◌-◌, ◌≤◌, true, List, [], ◌∷◌, ◌++◌, map, All}
use Rattle.lists.specs.Sets.{has}
use Rattle.flow_model.specs.declared.Loc.{Loc}
use Rattle.flow_model.specs.declared.StepSeen.{StepSeen}
use Rattle.flow_model.specs.Orders.{loc_cmp}
use Rattle.flow_model.specs.Origins.{origins}
use Rattle.flow_model.specs.Ranges.{IsInRange}
use Rattle.report_model.specs.Query.{Query, AreLocated, policy_of}
use Rattle.report_model.specs.Rows.{Row, row, rows_as_written}
use Rattle.epoch_model.specs.Stretch.{sinks_of_epoch}
use Rattle.epoch_model.specs.Summary.{Summary, AreSummaries}
use Rattle.taint_shadow.specs.declared.labels.SinkLabel.{SinkLabel}
use Rattle.source_labels.specs.declared.labels.SourceLabels.{SourceLabels}
use Rattle.labelled_sinks.specs.Rows.{row_by}
use Rattle.summary_join.specs.declared.cut.CutLabels.{CutLabels}
use Rattle.summary_join.specs.declared.piece.Piece.{Piece}
use Rattle.summary_join.specs.Labels.{had}
use Rattle.summary_join.specs.Pieces.{ArePieces}
use Rattle.summary_join.specs.Runs.{CutTrace}

-- the rows of the epochs that begin at time s and end at the cuts, one epoch after another
abbrev pub rows_from : Query → List StepSeen → ℕ → List ℕ → List Row
rows_from q trace s [] = []
rows_from q trace s (c ∷ cs) = map (row q trace) (sinks_of_epoch q trace s (c - s)) ++ rows_from q trace c cs

-- the cuts don't fall, from s on
abbrev pub Rise : ℕ → List ℕ → Type 0
Rise s [] = Unit {0}
Rise s (c ∷ cs) = (s ≤ c) × Rise c cs

-- the epochs of a run up to a time are joined. The later ones have these pieces; the locations that the first of those asks
-- for have the source bytes that they come from; and with the later rows those of the sinks are the run's
pub record IsUpTo (run : CutTrace) (labels : SourceLabels) (cut : CutLabels) (pieces : List Piece)
    (sinks : List SinkLabel) : Type 0 where
  pub in_range : All IsInRange run.trace
  pub located : AreLocated run.query.points
  pub time : ℕ
  pub cuts : List ℕ
  pub later : List Summary
  pub up : Rise time cuts
  pub summaries : AreSummaries run.query run.trace time cuts later
  pub are : ArePieces later cut.asked pieces
  pub origins_are : (l : Loc) → has loc_cmp l cut.asked ≡ true
      → had labels cut l ≡ origins (policy_of run.query) run.trace time l
  pub rows : map (row_by labels) sinks ++ rows_from run.query run.trace time cuts
      ≡ rows_as_written run.query run.trace
