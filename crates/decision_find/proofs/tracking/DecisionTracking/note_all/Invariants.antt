use Rattle.std.proofs.Common.{take}
use Rattle.decision_find.specs.Following.{IsSound, Notes}
use Rattle.decision_find.proofs.tracking.DecisionTracking.note_all.Given as goal

abbrev pub invariant-loop-loc : goal.invariant-loop-loc
invariant-loop-loc l = record {
  sound : IsSound l.self;
  noted : Notes l.look (take l.loc-index l.locs) l.initial.self l.self;
}
