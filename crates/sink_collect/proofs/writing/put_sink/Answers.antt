use Rattle.std.proofs.Common.{rules}
use Rattle.outer_io.specs.Pieces.{Puts}
use Rattle.std.specs.Prelude.{codes}
use Rattle.report_model.specs.Text.{point_text}
use Rattle.outer_io.proofs.PiecesLemmas.{puts-fault, puts-then}
use Rattle.sink_collect.proofs.writing.put_sink.Goals as goal

pub returns-in_err-put : goal.returns-in_err-put
returns-in_err-put g c =
    let text = point_text c.args.sink.now in
    puts-fault g.P.Pieces.putting _ c.args.place.now c.put.new.self _ c.from_residual.result c.from_residual.ensures.1
    (g.met.P.Pieces.laws.part_first c.args.place.now c.put.new.self (codes " ") text c.in_err-put.ensures)

pub returns : goal.returns
returns g c =
    let text = point_text c.args.sink.now in
    let rest : Puts g.P.Pieces.putting c.put.new.self text c.put-2.new.self c.put-2.result = search rules in
    puts-then g.P.Pieces.putting g.met.P.Pieces.laws c.args.place.now c.put.new.self c.put-2.new.self (codes " ") text c.put-2.result c.in_ok-put.ensures rest
