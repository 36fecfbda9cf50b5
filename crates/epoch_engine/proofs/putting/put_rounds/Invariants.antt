use Rattle.std.proofs.Common.{◌≡◌, List, ◌++◌, length}
use Rattle.std.specs.List.{flat_map}
use Rattle.report_model.specs.Rows.{Row}
use Rattle.report_model.specs.Text.{row_text}
use Rattle.epoch_engine.proofs.putting.put_rounds.Given as goal

-- the lines of the rows that went were put
abbrev pub invariant-loop-left : goal.invariant-loop-left
invariant-loop-left g l = (gone : List Row) × (gone ++ l.left ≡ l.rows) × g.P.Pieces.putting.whole l.initial.place (flat_map row_text gone) l.place

abbrev pub decreases-loop-left : goal.decreases-loop-left
decreases-loop-left g l = length l.left
