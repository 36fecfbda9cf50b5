use Rattle.std.proofs.Common.{◌≡◌, length, map, take}
use Rattle.source_labels.specs.declared.nodes.Nodes.{Nodes}
use Rattle.summary_join.specs.Needs.{AreNoted}
use Rattle.summary_join.proofs.needs.note_sinks.Given as goal

abbrev pub invariant-loop-number : goal.invariant-loop-number
invariant-loop-number l = record {
  room : length l.marks.items ≡ length l.fn.marks.items;
  noted : (nodes : Nodes) → AreNoted nodes (map (λ k. k.label) (take l.number l.sinks)) l.fn.marks.items l.fn.asked l.marks.items l.asked;
}
