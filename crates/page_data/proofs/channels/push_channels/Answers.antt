use Rattle.std.proofs.Common.{◌≡◌, ◌∙◌, ap, sym, ℕ, ◌++◌, List, append_assoc}
use Rattle.std.specs.List.{flat_map, range_with_len}
use Rattle.run_output.specs.Ways.{moved}
use Rattle.page_data.specs.Data.{channel_line}
use Rattle.page_data.proofs.InputChannels.{flat_map-one_more}
use Rattle.page_data.proofs.channels.push_channels.Goals as goal

pub loop-channel-preserved : goal.loop-channel-preserved
loop-channel-preserved c =
    let n : ℕ = c.loop-channel.channel in
    let way = c.args.way in
    let line : ℕ → List ℕ = λ k. channel_line way k (moved way k c.args.log.now.records) in
    let old = c.args.out.now.items in
    let before = flat_map line (range_with_len 0 n) in
    let bytes : c.deref.result.now ≡ moved way n c.args.log.now.records = c.deref.ensures.value ∙ c.in_ok-bytes.ensures ∙ ap (moved way n) c.records.ensures in
    c.in_ok-push_channel.ensures
    ∙ ap (λ (xs : List ℕ). xs ++ channel_line way n c.deref.result.now) c.loop-channel.invariant
    ∙ ap (λ (xs : List ℕ). (old ++ before) ++ channel_line way n xs) bytes
    ∙ append_assoc old before (line n)
    ∙ ap (λ (xs : List ℕ). old ++ xs) (sym (flat_map-one_more line n))
