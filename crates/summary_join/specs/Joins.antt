-- An epoch, joined to those before it.
use Rattle.std.specs.Prelude.{◌≡◌, true, List, ◌++◌, map}
use Rattle.lists.specs.Sets.{has}
use Rattle.flow_model.specs.declared.Loc.{Loc}
use Rattle.flow_model.specs.Orders.{loc_cmp}
use Rattle.epoch_model.specs.Join.{resolved, rows_of}
use Rattle.taint_shadow.specs.declared.labels.SinkLabel.{SinkLabel}
use Rattle.source_labels.specs.declared.labels.SourceLabels.{SourceLabels}
use Rattle.epoch_summary.specs.Summaries.{summary_of}
use Rattle.labelled_sinks.specs.Rows.{SinksStand, row_by}
use Rattle.summary_join.specs.declared.cut.CutLabels.{CutLabels}
use Rattle.summary_join.specs.declared.piece.Piece.{Piece}
use Rattle.summary_join.specs.Labels.{AllStand, had}

-- an epoch's sinks come after the earlier ones, and the next cut has what the locations that are asked there had at the
-- epoch's end
pub record IsJoined (old : SourceLabels) (cut : CutLabels) (p : Piece) (sinks : List SinkLabel)
    (new : SourceLabels) (next : CutLabels) (all : List SinkLabel) : Type 0 where
  pub asked : next.asked ≡ p.requests
  pub ends_stand : AllStand new next.labels.items
  pub sinks_stand : SinksStand new all
  pub ends : (l : Loc) → has loc_cmp l p.requests ≡ true
      → had new next l ≡ resolved (had old cut) ((summary_of p.summary).ends l)
  pub rows : map (row_by new) all ≡ map (row_by old) sinks ++ rows_of (summary_of p.summary) (had old cut)
