use Rattle.std.proofs.Common.{◌≡◌, ◌+◌, arith}
use Rattle.outer_io.proofs.PiecesLemmas.{puts-fault}
use Rattle.jet_commands.proofs.Reporting.{puts-report, puts-some_report}
use Rattle.jet_commands.proofs.pieces.put_reports.Goals as goal

pub returns-in_err-put_report : goal.returns-in_err-put_report
returns-in_err-put_report g c =
    let i = c.loop-report.report-index in
    let number : c.loop-report.number + 1 ≡ i + 1 = omega (arith, c.loop-report.invariant.number) in
    puts-fault g.P.Pieces.putting _ c.args.place.now c.put_report.new.place _ c.from_residual.result c.from_residual.ensures.1
    (puts-some_report g.P.Pieces.putting g.met.P.Pieces.laws c.args.reports.now i (c.loop-report.number + 1) c.report-item.result c.args.place.now c.loop-report.place c.put_report.new.place
    c.loop-report-test.true c.report-item.is number c.loop-report.invariant.text c.in_err-put_report.ensures)

pub loop-report-preserved : goal.loop-report-preserved
loop-report-preserved g c =
    let i = c.loop-report.report-index in
    let number : c.loop-report.number + 1 ≡ i + 1 = omega (arith, c.loop-report.invariant.number) in
    record {
      number = number;
      text = puts-report g.P.Pieces.putting g.met.P.Pieces.laws c.args.reports.now i (c.loop-report.number + 1) c.report-item.result c.args.place.now c.loop-report.place c.put_report.new.place
          c.loop-report-test.true c.report-item.is number c.loop-report.invariant.text c.in_ok-put_report.ensures;
    }
