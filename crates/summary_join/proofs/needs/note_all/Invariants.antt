use Rattle.std.proofs.Common.{◌≡◌, length, take}
use Rattle.source_labels.specs.declared.nodes.Nodes.{Nodes}
use Rattle.summary_join.specs.Needs.{AreNoted}
use Rattle.summary_join.proofs.needs.note_all.Given as goal

abbrev pub invariant-loop-place : goal.invariant-loop-place
invariant-loop-place l = record {
  room : length l.marks.items ≡ length l.fn.marks.items;
  noted : (nodes : Nodes) → AreNoted nodes (take l.place l.labels) l.fn.marks.items l.fn.asked l.marks.items l.asked;
}
