use Rattle.std.proofs.Common.{◌≡◌, ℕ, suc, ◌+◌, ◌<◌, ◌∷◌, ◌++◌, [], List, length, take, get_or, arith, ap, sym, ◌∙◌}
use Rattle.std.proofs.lemmas.List.{take_more}
use Rattle.std.proofs.lemmas.Option.{get_or_from_slice_get}
use Rattle.checkpoints.proofs.taker.CheckpointTaker.new.Goals as goal

pub loop-number-preserved : goal.loop-number-preserved
loop-number-preserved c =
    let cuts = c.args.cuts.now in
    let number = c.loop-number.number in
    let below : number < length cuts = omega (arith, c.loop-number-test.true, c.count-count.ensures.is) in
    let next : suc number ≡ number + 1 = omega arith in
    let item : get_or cuts number 0 ≡ c.at.result = ap (λ (k : ℕ). get_or (0 ∷ cuts) k 0) next ∙ get_or_from_slice_get (0 ∷ cuts) (number + 1) c.at.result 0 c.at.ensures in
    c.in_ok-push.ensures.items
    ∙ ap (λ (times : List ℕ). times ++ c.at.result ∷ []) c.loop-number.invariant
    ∙ ap (λ (time : ℕ). take number cuts ++ time ∷ []) (sym item)
    ∙ sym (take_more cuts number 0 below)
