use Rattle.std.proofs.Common.{◌≡◌, ◌-◌, ◌≤◌, ◌++◌, vec_len, vec_capacity}
use Rattle.order_gateway.specs.Input.{bytes_after, input}
use Rattle.order_gateway.proofs.generator.input.Given as goal

-- the bytes so far, and those of the states that are left; and there is room for all
abbrev pub invariant-loop-i : goal.invariant-loop-i
invariant-loop-i l = record {
  bytes : l.bytes.items ++ bytes_after (l.length - l._i) l.state ≡ input l.seed l.steps;
  count : vec_len l.bytes ≡ l._i;
  room : l.length ≤ vec_capacity l.bytes;
}
