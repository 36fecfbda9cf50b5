use Rattle.std.proofs.Common.{◌≡◌, ◌+◌, ◌-◌}
use Rattle.std.specs.List.{list_all}
use Rattle.range_report.specs.Text.{holds_sources}
use Rattle.range_report.specs.OpenRuns.{moved_rows, rows_moved}
use Rattle.range_report.proofs.lines.are_same.Given as goal

-- the rest of the rows decides
abbrev pub invariant-loop-i : goal.invariant-loop-i
invariant-loop-i l =
    list_all (holds_sources l.moved.calls.now)
    (moved_rows l.run.first.channel (l.run.first.offset + l.i) l.run.source.channel (l.run.source.offset + l.i) (l.run.length - l.i))
    ≡ list_all (holds_sources l.moved.calls.now) (rows_moved l.run)
