use Rattle.std.proofs.Common.{◌≡◌, ◌+◌, ◌*◌, get_or, take, ap, ◌∙◌, arith}
use Rattle.std.specs.List.{sum_by}
use Rattle.std.proofs.lemmas.List.Sums.{sum_by_more_le}
use Rattle.log_model.specs.Logs.{share}
use Rattle.replay_log.proofs.lengths.text_length.Goals as goal

pub overflow_add-length-in-loop-call : goal.overflow_add-length-in-loop-call
overflow_add-length-in-loop-call c =
    let f = share c.args.inputs in
    let calls = c.args.records.now in
    let i = c.loop-call.call-index in
    let here : c.share-length.result ≡ f (get_or calls i c.call-item.result) = c.share-length.ensures ∙ ap f c.call-item.is in
    let so_far : c.loop-call.length ≡ 48 + 4 * c.args.inputs + sum_by f (take i calls) = c.loop-call.invariant in
    omega (arith, here, so_far, sum_by_more_le f calls i c.call-item.result c.loop-call-test.true, c.requires.limit, c.ranges.inputs.fits)
