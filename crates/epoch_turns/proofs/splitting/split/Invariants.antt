use Rattle.std.proofs.Common.{◌≡◌, ◌≤◌, ◌++◌, vec_len}
use Rattle.run_board.specs.Tasks.{AreNumbered}
use Rattle.epoch_turns.specs.Groups.{GroupView, nodes_of}
use Rattle.epoch_turns.proofs.splitting.split.Given as goal

-- the nodes that are in no group, of which the last group leaves none, and the groups so far
abbrev pub invariant-loop-number : goal.invariant-loop-number
invariant-loop-number g l = record {
  split : l.nodes.items ++ nodes_of l.groups.items ≡ l.fn.nodes.items;
  numbers : AreNumbered (λ (v : GroupView). v.number) l.groups.items;
  count : vec_len l.groups ≡ l.number;
  left : l.count ≤ l.number → vec_len l.nodes ≡ 0;
}
