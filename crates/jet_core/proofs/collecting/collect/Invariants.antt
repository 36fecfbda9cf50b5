use Rattle.std.proofs.Common.{◌≡◌, ◌++◌, List, map}
use Rattle.std.specs.List.{flat_map, sum_by}
use Rattle.std.specs.Vec.Iter.{into_iter_items}
use Rattle.sink_collect.specs.Pairs.{capped}
use Rattle.epoch_node.specs.Cores.{CoreView, core_of}
use Rattle.epoch_layout.specs.DoneLines.{DoneNode}
use Rattle.jet_core.proofs.Nodes.{AreNodesOf}
use Rattle.jet_core.proofs.collecting.collect.Given as goal

-- the cores that are done with
abbrev pub invariant-loop-core : goal.invariant-loop-core
invariant-loop-core g l = record {
  front : List CoreView;
  done : List DoneNode;
  split : front ++ map core_of (into_iter_items l.core-iterator) ≡ map core_of l.fn.line.cores.items;
  are : AreNodesOf done front l.fn.line.joints.items;
  sets : l.sets ≡ flat_map (λ (n : DoneNode). n.rows) done;
  asked : l.asked.items ≡ map (λ (n : DoneNode). n.asked) done;
  events : l.events ≡ capped (sum_by (λ (n : DoneNode). n.events) done);
}
