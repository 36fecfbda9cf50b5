use Rattle.std.proofs.Common.{◌≡◌, ◌++◌}
use Rattle.decision_find.proofs.Counted.{lines_of}
use Rattle.decision_find.proofs.writing.text.Given as goal

abbrev pub invariant-loop-place : goal.invariant-loop-place
invariant-loop-place l =
    l.out.items ++ lines_of l.tracking.labels l.place-iterator ≡ lines_of l.tracking.labels l.tracking.groups.by_place.entries
