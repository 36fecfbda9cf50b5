use Rattle.std.proofs.Common.{◌≡◌, length}
use Rattle.outer_io.specs.Tells.{Tells}
use Rattle.outer_wire.proofs.Turns.{StandsAt}
use Rattle.outer_wire.proofs.talking.talk.Given as goal

-- all that came is answered, and the talk isn't over
abbrev pub invariant-loop-receive : goal.invariant-loop-receive
invariant-loop-receive g l = record {
  room : length l.piece ≡ 4096;
  stood : (g.W.Wire.shown l.wire).faults ≡ (g.W.Wire.shown l.initial.wire).faults;
  told : Tells (g.W.Wire.shown l.initial.wire).history (g.W.Wire.shown l.wire).history
      (StandsAt (g.A.Answerer.answers l.initial.answerer) (g.A.Answerer.answers l.answerer));
}
