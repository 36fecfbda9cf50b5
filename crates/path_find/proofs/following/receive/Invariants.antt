use Rattle.path_find.specs.Trails.{Receives, first_bytes}
use Rattle.path_find.proofs.following.receive.Given as goal

abbrev pub invariant-loop-i : goal.invariant-loop-i
invariant-loop-i l = Receives l.fn.nodes l.fn.carriers l.source l.number (first_bytes l.call l.i) l.nodes l.carriers
