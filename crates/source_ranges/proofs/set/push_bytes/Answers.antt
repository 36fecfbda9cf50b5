use Rattle.std.proofs.Common.{◌+◌, ◌++◌, ◌∷◌, [], List, sym, ap, ◌∙◌, append_assoc}
use Rattle.flow_model.specs.declared.SourceByte.{SourceByte}
use Rattle.source_ranges.specs.Ranges.{byte_on, bytes_of}
use Rattle.source_ranges.proofs.Kept.{range, bytes-first}
use Rattle.source_ranges.proofs.set.push_bytes.Goals as goal

pub loop-offset-preserved : goal.loop-offset-preserved
loop-offset-preserved c =
    let r = c.args.range in
    let o = c.loop-offset.offset in
    let rest = bytes_of (range r.channel (o + 1) r.past) in
    let old = c.loop-offset.bytes.items in
    ap (λ (bs : List SourceByte). bs ++ rest) c.in_ok-push.ensures.items
    ∙ append_assoc old (byte_on r.channel o ∷ []) rest
    ∙ ap (λ (bs : List SourceByte). old ++ bs) (sym (bytes-first r.channel o r.past c.loop-offset-test.true))
    ∙ c.loop-offset.invariant
