use Rattle.std.proofs.Common.{◌≡◌, ◌≤◌, All, vec_len, vec_capacity}
use Rattle.run_board.specs.Workers.{HasRoomFor}
use Rattle.run_board.proofs.board.make_lists.Given as goal

abbrev pub invariant-loop : goal.invariant-loop
invariant-loop g l = record {
  count : vec_len l.lists ≡ l.counter;
  room : l.count ≤ vec_capacity l.lists;
  lists : All (HasRoomFor l.fn.room) l.lists.items;
}
