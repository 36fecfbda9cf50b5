use Rattle.std.proofs.Common.{◌+◌, ◌≤◌, reverse, vec_len, vec_capacity}
use Rattle.std.specs.List.{AllZip}
use Rattle.epoch_node.specs.Events.{WhenMoved}
use Rattle.epoch_node.specs.Nodes.{HasMoved, IsLedFrom}
use Rattle.epoch_turns.specs.Groups.{HasRested}
use Rattle.epoch_turns.proofs.Lists.{AnyZip}
use Rattle.epoch_turns.proofs.Jobs.{IsOnItsWay}
use Rattle.epoch_turns.proofs.Sweeps.{IsSweep, UnlessMoved}
use Rattle.epoch_turns.proofs.group.GroupTask.turn.Given as goal

-- from the first to the last
abbrev pub invariant-loop-node : goal.invariant-loop-node
invariant-loop-node g l = record {
  sweep : IsSweep l.fn.self.nodes l.left.items l.turned.items l.up;
  cursor : IsOnItsWay l.left.items l.cursor;
  left_room : vec_len l.left + vec_len l.turned ≤ vec_capacity l.left;
  turned_room : vec_len l.left + vec_len l.turned ≤ vec_capacity l.turned;
}

abbrev pub decreases-loop-node : goal.decreases-loop-node
decreases-loop-node g l = vec_len l.left

-- and from the last to the first
abbrev pub invariant-loop-node-2 : goal.invariant-loop-node-2
invariant-loop-node-2 g l = record {
  up : AllZip IsLedFrom l.initial.turned.items l.fn.self.nodes;
  up_moved : WhenMoved l.up (AnyZip HasMoved l.initial.turned.items l.fn.self.nodes);
  up_rested : UnlessMoved l.up (AllZip HasRested l.initial.turned.items l.fn.self.nodes);
  sweep : IsSweep (reverse l.initial.turned.items) l.turned.items l.left.items l.down;
  left_room : vec_len l.left + vec_len l.turned ≤ vec_capacity l.left;
  turned_room : vec_len l.left + vec_len l.turned ≤ vec_capacity l.turned;
}

abbrev pub decreases-loop-node-2 : goal.decreases-loop-node-2
decreases-loop-node-2 g l = vec_len l.turned
