use Rattle.std.proofs.Common.{◌≡◌, take}
use Rattle.report_model.specs.Together.{only}
use Rattle.sink_collect.proofs.report.Report.only.Given as goal

abbrev pub invariant-loop-row : goal.invariant-loop-row
invariant-loop-row l = l.rows.items ≡ only l.query (take l.row-index l.row-items)
