use Rattle.std.proofs.Common.{◌≡◌, take}
use Rattle.jet_commands.specs.Texts.{reports_text}
use Rattle.jet_commands.proofs.pieces.put_reports.Given as goal

-- the first reports were put
abbrev pub invariant-loop-report : goal.invariant-loop-report
invariant-loop-report g l = record {
  number : l.number ≡ l.report-index;
  text : g.P.Pieces.putting.whole l.initial.place (reports_text 1 (take l.report-index l.reports)) l.place;
}
