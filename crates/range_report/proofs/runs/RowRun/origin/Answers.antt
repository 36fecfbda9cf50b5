use Rattle.std.proofs.Common.{sym, subst}
use Rattle.range_report.specs.declared.runs.RowRun.{RowRun}
use Rattle.range_report.specs.declared.runs.Origin.TheVariants as origin
use Rattle.range_report.specs.OpenRuns.{rows_of, IsOpen, IsOriginOf}
use Rattle.range_report.proofs.Rows.{shared-origin}
use Rattle.range_report.proofs.runs.RowRun.origin.Goals as goal

pub returns-in-Shared : goal.returns-in-Shared
returns-in-Shared c =
    let s = c.in-Shared in
    let fits = subst IsOpen s.is c.requires in
    subst (λ (run : RowRun). IsOriginOf (rows_of run) (origin.Shared s.sources)) (sym s.is)
    (shared-origin s.first.channel s.first.offset s.sources.now s.length fits.0)
