use Rattle.std.proofs.Common.{subst, ℕ, List, []}
use Rattle.std.specs.List.{flat_map}
use Rattle.std.proofs.lemmas.List.{take_all}
use Rattle.report_model.specs.Rows.{Row}
use Rattle.report_model.specs.Text.{row_text}
use Rattle.outer_io.specs.Pieces.{Puts}
use Rattle.outer_io.proofs.PiecesLemmas.{puts-fault, puts-more, puts-some}
use Rattle.sink_collect.specs.Waiting.{waiting}
use Rattle.sink_collect.proofs.Waiting.{waiting_laws, put-last}
use Rattle.sink_collect.proofs.writing.put_rows.Goals as goal

pub loop-row-preserved : goal.loop-row-preserved
loop-row-preserved g c =
    puts-more (waiting g.P.Pieces.putting) (waiting_laws g.P.Pieces.putting g.met.P.Pieces.laws) row_text c.args.rows.now c.loop-row.row-index c.row-item.result
    (c.args.place.now, []) (c.loop-row.place, c.loop-row.text) (c.add_row.new.place, c.add_row.new.text)
    c.loop-row-test.true c.row-item.is c.loop-row.invariant c.in_ok-add_row.ensures

pub returns-in_err-add_row : goal.returns-in_err-add_row
returns-in_err-add_row g c =
    puts-fault g.P.Pieces.putting _ c.args.place.now c.add_row.new.place _ c.from_residual.result c.from_residual.ensures.1
    (puts-some (waiting g.P.Pieces.putting) (waiting_laws g.P.Pieces.putting g.met.P.Pieces.laws) row_text c.args.rows.now c.loop-row.row-index c.row-item.result
    (c.args.place.now, []) (c.loop-row.place, c.loop-row.text) (c.add_row.new.place, c.add_row.new.text)
    c.loop-row-test.true c.row-item.is c.loop-row.invariant c.in_err-add_row.ensures)

pub returns : goal.returns
returns g c =
    let all = subst (λ (rows : List Row). (waiting g.P.Pieces.putting).whole (c.args.place.now, []) (flat_map row_text rows) (c.loop-row.place, c.loop-row.text))
    (take_all c.loop-row.row-index c.args.rows.now c.loop-row-test.false) c.loop-row.invariant in
    put-last g.P.Pieces.putting g.met.P.Pieces.laws c.args.place.now c.loop-row.place c.put.new.self c.loop-row.text (flat_map row_text c.args.rows.now) c.put.result all
    (subst (λ (text : List ℕ). Puts g.P.Pieces.putting c.loop-row.place text c.put.new.self c.put.result) c.as_bytes.ensures c.put.ensures)
