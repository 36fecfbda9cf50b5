use Rattle.std.proofs.Common.{◌≡◌, take}
use Rattle.outer_io.specs.Tells.{Tells}
use Rattle.outer_wire.specs.Answering.{IsAnswered}
use Rattle.outer_wire.proofs.talking.answer_piece.Given as goal

-- the first of the bytes are answered
abbrev pub invariant-loop-byte : goal.invariant-loop-byte
invariant-loop-byte g l = record {
  stood : (g.W.Wire.shown l.wire).faults ≡ (g.W.Wire.shown l.initial.wire).faults;
  told : Tells (g.W.Wire.shown l.initial.wire).history (g.W.Wire.shown l.wire).history
      (IsAnswered (g.A.Answerer.answers l.initial.answerer) (take l.byte-index l.bytes) (g.A.Answerer.answers l.answerer));
}
