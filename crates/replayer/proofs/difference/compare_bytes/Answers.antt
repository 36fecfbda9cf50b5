use Rattle.std.proofs.Common.{◌≡◌, ◌+◌, ◌∷◌, [], drop, get_or, ap, sym, ◌∙◌}
use Rattle.std.proofs.lemmas.Result.{err_from_is_err_and}
use Rattle.replay_model.specs.Comparison.{compared, first_different, bytes_compared}
use Rattle.replay_model.specs.declared.Field.TheVariants as field
use Rattle.replayer.specs.Differences.{compared_of}
use Rattle.replayer.proofs.Sequences.{first_after, first_before, bytes_step, bytes_done}
use Rattle.replayer.proofs.difference.compare_bytes.Goals as goal

pub loop-i-preserved : goal.loop-i-preserved
loop-i-preserved c =
    let one : c.from.result ≡ get_or c.args.kept.now c.loop-i.i 0 = cc in
    let other : c.from-in-loop-i.result ≡ get_or c.args.seen.now c.loop-i.i 0 = cc in
    let step = bytes_step c.loop-i.i c.args.kept.now c.args.seen.now c.from.result c.from-in-loop-i.result c.loop-i-test.true c.requires.same one other in
    let rest = bytes_compared (c.loop-i.i + 1) (drop (c.loop-i.i + 1) c.args.kept.now) (drop (c.loop-i.i + 1) c.args.seen.now) in
    let here = compared (field.Byte c.loop-i.i) c.from.result c.from-in-loop-i.result in
    sym (ap first_different step ∙ first_after (here ∷ []) rest c.in_ok-compare_words.ensures) ∙ c.loop-i.invariant

pub returns-in_err-compare_words : goal.returns-in_err-compare_words
returns-in_err-compare_words c =
    let p = err_from_is_err_and c.from_residual.result c.from_residual.ensures.1 in
    let one : c.from.result ≡ get_or c.args.kept.now c.loop-i.i 0 = cc in
    let other : c.from-in-loop-i.result ≡ get_or c.args.seen.now c.loop-i.i 0 = cc in
    let step = bytes_step c.loop-i.i c.args.kept.now c.args.seen.now c.from.result c.from-in-loop-i.result c.loop-i-test.true c.requires.same one other in
    let rest = bytes_compared (c.loop-i.i + 1) (drop (c.loop-i.i + 1) c.args.kept.now) (drop (c.loop-i.i + 1) c.args.seen.now) in
    let here = compared (field.Byte c.loop-i.i) c.from.result c.from-in-loop-i.result in
    rw (p.1, p.2) (sym c.loop-i.invariant ∙ ap first_different step ∙ first_before (here ∷ []) rest (compared_of c.in_err-compare_words.field-0.0) c.in_err-compare_words.ensures)

pub returns : goal.returns
returns c = sym c.loop-i.invariant ∙ bytes_done c.loop-i.i c.args.kept.now c.args.seen.now c.loop-i-test.false
