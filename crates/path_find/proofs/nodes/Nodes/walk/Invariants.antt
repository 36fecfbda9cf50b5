use Rattle.std.proofs.Common.{◌≡◌, ◌++◌, length, get_or}
use Rattle.std.specs.Prelude.{[]}
use Rattle.path_find.specs.Nodes.{previous_path, paths_of, IsEarlier}
use Rattle.path_find.proofs.Paths.{count_left}
use Rattle.path_find.proofs.nodes.Nodes.walk.Given as goal

abbrev pub invariant-loop-next : goal.invariant-loop-next
invariant-loop-next l = record {
  so_far : l.arrivals.items ++ previous_path (paths_of l.self) l.next ≡ get_or (paths_of l.self) l.last [];
  inside : IsEarlier (length l.self) l.next;
}

abbrev pub decreases-loop-next : goal.decreases-loop-next
decreases-loop-next l = count_left l.next
