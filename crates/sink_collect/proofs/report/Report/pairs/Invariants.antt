use Rattle.std.proofs.Common.{◌≡◌, take}
use Rattle.sink_collect.specs.Pairs.{pairs, capped}
use Rattle.sink_collect.proofs.report.Report.pairs.Given as goal

abbrev pub invariant-loop-row : goal.invariant-loop-row
invariant-loop-row l = l.count ≡ capped (pairs (take l.row-index l.row-items))
