use Rattle.std.proofs.Common.{◌++◌, ◌∷◌, [], List, ℕ}
use Rattle.std.specs.Prelude.{codes}
use Rattle.std.specs.Fmt.{decimal}
use Rattle.report_model.specs.Text.{report_text}
use Rattle.outer_io.proofs.PiecesLemmas.{puts-fault, puts-then}
use Rattle.jet_commands.proofs.pieces.put_report.Goals as goal

pub returns-in_err-put_numbered : goal.returns-in_err-put_numbered
returns-in_err-put_numbered g c =
    let head : List ℕ = codes "query " ++ decimal c.args.number ++ 0x0a ∷ [] in
    puts-fault g.P.Pieces.putting _ c.args.place.now c.put_numbered.new.place _ c.from_residual.result c.from_residual.ensures.1
    (g.met.P.Pieces.laws.part_first c.args.place.now c.put_numbered.new.place head (report_text c.args.report.now) c.in_err-put_numbered.ensures)

pub returns : goal.returns
returns g c =
    let head : List ℕ = codes "query " ++ decimal c.args.number ++ 0x0a ∷ [] in
    puts-then g.P.Pieces.putting g.met.P.Pieces.laws c.args.place.now c.put_numbered.new.place c.put_text_at_once.new.place head (report_text c.args.report.now) c.put_text_at_once.result c.in_ok-put_numbered.ensures c.put_text_at_once.ensures
