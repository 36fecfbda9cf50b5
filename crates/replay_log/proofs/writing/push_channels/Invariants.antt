use Rattle.std.proofs.Common.{◌≡◌, ◌++◌, map}
use Rattle.std.specs.List.{flat_map, range_with_len}
use Rattle.log_model.specs.Moved.{received}
use Rattle.log_model.specs.Logs.{channel_text}
use Rattle.replay_log.proofs.writing.push_channels.Given as goal

-- the channels so far
abbrev pub invariant-loop-channel : goal.invariant-loop-channel
invariant-loop-channel l = l.out.items ≡ l.fn.out.items ++ flat_map channel_text (map (λ c. received c l.log.records) (range_with_len 0 l.channel))
