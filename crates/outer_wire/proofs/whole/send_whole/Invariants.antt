use Rattle.std.proofs.Common.{◌≡◌, ◌++◌, ℕ, List, length}
use Rattle.outer_io.specs.Tells.{Tells}
use Rattle.outer_wire.specs.Sending.{Sends}
use Rattle.outer_wire.proofs.whole.send_whole.Given as goal

-- what is sent so far, and what is left, are the bytes
abbrev pub invariant-loop-rest : goal.invariant-loop-rest
invariant-loop-rest g l = record {
  done : List ℕ;
  whole : done ++ l.rest ≡ l.bytes;
  stood : (g.W.Wire.shown l.wire).faults ≡ (g.W.Wire.shown l.initial.wire).faults;
  told : Tells (g.W.Wire.shown l.initial.wire).history (g.W.Wire.shown l.wire).history (Sends done);
}

abbrev pub decreases-loop-rest : goal.decreases-loop-rest
decreases-loop-rest g l = length l.rest
