use Rattle.std.proofs.Common.{ℕ, List, subst}
use Rattle.outer_io.proofs.PiecesLemmas.{puts-fault, puts-some}
use Rattle.epoch_engine.proofs.putting.put_texts.Goals as goal

pub returns-in_err-put : goal.returns-in_err-put
returns-in_err-put g c =
    puts-fault g.P.Pieces.putting _ c.args.place.now c.put.new.self _ c.from_residual.result c.from_residual.ensures.1
    (puts-some g.P.Pieces.putting g.met.P.Pieces.laws (λ text. text.items) c.args.texts.now c.loop-text.text-index c.text-item.result
    c.args.place.now c.loop-text.place c.put.new.self c.loop-text-test.true c.text-item.is c.loop-text.invariant
    (subst (λ (text : List ℕ). g.P.Pieces.putting.part c.loop-text.place text c.put.new.self) c.deref.ensures.value c.in_err-put.ensures))
