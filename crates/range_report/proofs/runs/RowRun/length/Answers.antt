use Rattle.std.proofs.Common.{length, ap, sym, ◌∙◌}
use Rattle.range_report.specs.declared.runs.RowRun.{RowRun}
use Rattle.range_report.specs.OpenRuns.{rows_of}
use Rattle.range_report.proofs.Rows.{length-moved, length-shared}
use Rattle.range_report.proofs.runs.RowRun.length.Goals as goal

pub returns-in-Moved-clause-length : goal.returns-in-Moved-clause-length
returns-in-Moved-clause-length c =
    let m = c.in-Moved.run' in
    sym (ap (λ (run : RowRun). length (rows_of run)) c.in-Moved.is ∙ length-moved m.first.channel m.first.offset m.source.channel m.source.offset m.length)

pub returns-in-Shared-clause-length : goal.returns-in-Shared-clause-length
returns-in-Shared-clause-length c =
    let s = c.in-Shared in
    sym (ap (λ (run : RowRun). length (rows_of run)) s.is ∙ length-shared s.first.channel s.first.offset s.sources.now s.length)
