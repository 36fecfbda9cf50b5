use Rattle.std.proofs.Common.{take}
use Rattle.std.specs.List.{flat_map}
use Rattle.epoch_engine.proofs.putting.put_texts.Given as goal

abbrev pub invariant-loop-text : goal.invariant-loop-text
invariant-loop-text g l = g.P.Pieces.putting.whole l.initial.place (flat_map (λ text. text.items) (take l.text-index l.texts)) l.place
