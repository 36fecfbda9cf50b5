use Rattle.std.proofs.Common.{◌≡◌, ◌++◌, List, map, reverse, vec_len}
use Rattle.std.specs.List.{sum_by}
use Rattle.sink_collect.specs.Pairs.{capped}
use Rattle.epoch_layout.specs.DoneLines.{DoneNode}
use Rattle.epoch_layout.proofs.Popping.{Finished, views, nodes, Faces, AreClosed}
use Rattle.epoch_layout.proofs.collecting.collect.Given as goal

-- the nodes that are done with, whose links to the next ones are closed
abbrev pub invariant-loop-node : goal.invariant-loop-node
invariant-loop-node g l = record {
  done : List Finished;
  split : l.fn.nodes.items ≡ l.nodes.items ++ views done;
  faces : Faces done l.gathering.ask_out l.gathering.answer_in;
  closed : AreClosed done;
  sets : l.gathering.sets.items ≡ reverse (map (λ (d : DoneNode). d.rows) (nodes done));
  asked : l.gathering.asked.items ≡ reverse (map (λ (d : DoneNode). d.asked) (nodes done));
  events : l.gathering.events ≡ capped (sum_by (λ (d : DoneNode). d.events) (nodes done));
}

abbrev pub decreases-loop-node : goal.decreases-loop-node
decreases-loop-node g l = vec_len l.nodes
