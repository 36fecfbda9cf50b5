use Rattle.std.proofs.Common.{subst, List}
use Rattle.std.proofs.lemmas.Result.{on_ok_weaker}
use Rattle.flow_model.specs.declared.Loc.{Loc}
use Rattle.decision_find.specs.Decisions.{decides_fetched, fetched_from}
use Rattle.decision_find.specs.Following.{Notes}
use Rattle.decision_find.proofs.Noted.{noted_then}
use Rattle.decision_find.proofs.tracking.DecisionTracking.note.Goals as goal

pub returns-clause-noted : goal.returns-clause-noted
returns-clause-noted c =
    let look = c.args.look.now in
    let operands = decides_fetched c.args.self.now.rule look.kind look.instr in
    on_ok_weaker c.note_all.result
    (λ h. noted_then look operands (fetched_from look.pc) c.args.self.now c.note_operands.new.self c.note_all.new.self c.requires.sound.locations c.in_ok-note_operands.ensures.noted
    (subst (λ (ls : List Loc). Notes look ls c.note_operands.new.self c.note_all.new.self) c.bytes.ensures h))
    c.note_all.ensures.noted
