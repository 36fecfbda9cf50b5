use Rattle.std.proofs.Common.{◌≡◌, ℕ, [], length, map, get_or}
use Rattle.range_report.proofs.channels.Channels.new.Given as goal

-- none of the channels so far has any
abbrev pub invariant-loop-channel : goal.invariant-loop-channel
invariant-loop-channel l = record {
  long : length l.bytes.items ≡ l._channel;
  empty : (c : ℕ) → get_or (map (λ bytes. bytes.items) l.bytes.items) c [] ≡ [];
}
