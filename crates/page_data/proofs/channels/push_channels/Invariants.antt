use Rattle.std.proofs.Common.{◌≡◌, ◌++◌}
use Rattle.std.specs.List.{flat_map, range_with_len}
use Rattle.run_output.specs.Ways.{moved}
use Rattle.page_data.specs.Data.{channel_line}
use Rattle.page_data.proofs.channels.push_channels.Given as goal

-- the lines of the channels so far
abbrev pub invariant-loop-channel : goal.invariant-loop-channel
invariant-loop-channel l = l.out.items ≡ l.fn.out.items ++ flat_map (λ c. channel_line l.way c (moved l.way c l.log.records)) (range_with_len 0 l.channel)
