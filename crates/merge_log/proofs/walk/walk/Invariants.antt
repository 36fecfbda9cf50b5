use Rattle.std.proofs.Common.{◌<◌, length}
use Rattle.merge_log.specs.Walk.{terms_of}
use Rattle.merge_log.proofs.Marks.{cost}
use Rattle.merge_log.proofs.Walking.{IsWalk, none_open}
use Rattle.merge_log.proofs.walk.walk.Given as goal

-- the leaves found, with those under the stack, are the leaves under the root
abbrev pub invariant-loop-next : goal.invariant-loop-next
invariant-loop-next l = record {
  room : length l.log < length l.marks.last.items;
  walk : IsWalk l.log l.root l.marks.round l.marks.last.items l.stack.items (terms_of l.found) none_open;
}

abbrev pub decreases-loop-next : goal.decreases-loop-next
decreases-loop-next l = cost l.marks.last.items l.marks.round l.stack.items
