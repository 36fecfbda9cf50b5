use Rattle.std.proofs.Common.{[], take}
use Rattle.std.specs.List.{flat_map}
use Rattle.report_model.specs.Text.{row_text}
use Rattle.sink_collect.specs.Waiting.{waiting}
use Rattle.sink_collect.proofs.writing.put_rows.Given as goal

abbrev pub invariant-loop-row : goal.invariant-loop-row
invariant-loop-row g l = (waiting g.P.Pieces.putting).whole (l.initial.place, []) (flat_map row_text (take l.row-index l.rows)) (l.place, l.text)
