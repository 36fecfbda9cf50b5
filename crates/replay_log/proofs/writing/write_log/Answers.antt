use Rattle.std.specs.List.{flat_map}
use Rattle.log_model.specs.declared.Version.TheVariants.{Two}
use Rattle.log_model.specs.Logs.{header_text, channel_text, kept_channels, record_text, end_text}
use Rattle.replay_log.proofs.Joined.{four_texts}
use Rattle.replay_log.proofs.writing.write_log.Goals as goal

pub returns : goal.returns
returns c =
    let log = c.args.log.now in
    four_texts (header_text Two log) (flat_map channel_text (kept_channels Two log)) (flat_map (record_text Two) log.records) (end_text Two log.end) _ _ _ _ _
    c.in_ok-out.ensures.items c.in_ok-push_header.ensures c.in_ok-push_channels.ensures (rw c.records.ensures at c.in_ok-push_records.ensures) (rw c.end.ensures at c.in_ok-push_end.ensures)
