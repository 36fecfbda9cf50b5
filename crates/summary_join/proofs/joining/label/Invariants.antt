use Rattle.std.proofs.Common.{vec_len}
use Rattle.summary_join.specs.Labels.{AllStand}
use Rattle.labelled_sinks.specs.Rows.{SinksStand}
use Rattle.summary_join.specs.Runs.{CutTrace}
use Rattle.summary_join.specs.UpTo.{IsUpTo}
use Rattle.summary_join.proofs.joining.label.Given as goal

-- the epochs before the cut are joined
abbrev pub invariant-loop-piece : goal.invariant-loop-piece
invariant-loop-piece l = record {
  cut_stands : AllStand l.labels l.cut.labels.items;
  sinks_stand : SinksStand l.labels l.sinks.items;
  up_to : (run : CutTrace) → IsUpTo run l.fn.labels l.fn.cut l.fn.pieces.items l.fn.sinks.items → IsUpTo run l.labels l.cut l.pieces.items l.sinks.items;
}

abbrev pub decreases-loop-piece : goal.decreases-loop-piece
decreases-loop-piece l = vec_len l.pieces
