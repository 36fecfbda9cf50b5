use Rattle.std.proofs.Common.{◌≡◌, map, take}
use Rattle.std.specs.Prelude.{All}
use Rattle.source_labels.specs.Words.{node_words}
use Rattle.epoch_summary.specs.Summaries.{end_label, nodes_of}
use Rattle.summary_join.proofs.piece.labels_at_end.Given as goal

abbrev pub invariant-loop-place : goal.invariant-loop-place
invariant-loop-place l = record {
  labels : l.ends.items ≡ map (end_label l.summary) (take l.place l.locations);
  stand : All (node_words.stands (nodes_of l.summary)) l.ends.items;
}
