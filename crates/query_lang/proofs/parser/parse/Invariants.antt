use Rattle.std.proofs.Common.{◌+◌, ◌≤◌, length}
use Rattle.query_lang.proofs.ParseLemmas.{IsPartOf, lines_left, size_left}
use Rattle.query_lang.proofs.parser.parse.Given as goal

abbrev pub invariant-loop-left : goal.invariant-loop-left
invariant-loop-left l = record {
  part : IsPartOf l.text l.number l.draft (lines_left l.left);
  size : l.number + size_left l.left ≤ length l.text + 1;
}

abbrev pub decreases-loop-left : goal.decreases-loop-left
decreases-loop-left l = size_left l.left
