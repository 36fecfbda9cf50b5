use Rattle.std.proofs.Common.{◌≡◌, ◌++◌, List, map, vec_len}
use Rattle.epoch_model.specs.Summary.{Summary}
use Rattle.epoch_summary.specs.Summaries.{summary_of}
use Rattle.summary_join.specs.Pieces.{ArePieces}
use Rattle.summary_join.proofs.joining.ask.Given as goal

-- the later epochs have their pieces
abbrev pub invariant-loop-summary : goal.invariant-loop-summary
invariant-loop-summary l = record {
  later : List Summary;
  split : map summary_of l.summaries.items ++ later ≡ map summary_of l.fn.summaries.items;
  are : ArePieces later l.asked l.pieces.items;
}

abbrev pub decreases-loop-summary : goal.decreases-loop-summary
decreases-loop-summary l = vec_len l.summaries
