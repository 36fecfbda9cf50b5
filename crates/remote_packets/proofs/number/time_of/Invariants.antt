use Rattle.std.proofs.Common.{◌≡◌, ◌<◌, ◌^◌, length}
use Rattle.remote_packets.specs.Numbers.{decimal_digits, time_after}
use Rattle.remote_packets.proofs.number.time_of.Given as goal

-- what is left has the value of the whole
abbrev pub invariant-loop-rest : goal.invariant-loop-rest
invariant-loop-rest l = record {
  same : time_after l.value (decimal_digits l.rest) ≡ time_after 0 (decimal_digits l.text);
  fits : l.value < 2 ^ 64;
}

abbrev pub decreases-loop-rest : goal.decreases-loop-rest
decreases-loop-rest l = length l.rest
