use Rattle.std.proofs.Common.{◌≡◌, ◌+◌, ◌≤◌, ◌++◌, reverse, vec_len, vec_capacity}
use Rattle.epoch_turns.proofs.splitting.take_group.Given as goal

-- the nodes of the group so far, and the others
abbrev pub invariant-loop : goal.invariant-loop
invariant-loop g l = record {
  split : l.nodes.items ++ reverse l.stack.items ≡ l.fn.nodes.items;
  taken : vec_len l.stack ≡ l.counter;
  left : vec_len l.nodes + l.counter ≡ vec_len l.fn.nodes;
  room : l.count ≤ vec_capacity l.stack;
}
