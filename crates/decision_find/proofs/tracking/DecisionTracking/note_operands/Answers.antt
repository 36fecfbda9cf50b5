use Rattle.std.proofs.Common.{sym, ◌∙◌, subst}
use Rattle.std.specs.Prelude.{Option}
use Rattle.isa.specs.declared.Instr.{Instr}
use Rattle.flow_model.specs.Ranges.{AreLocations}
use Rattle.decision_find.specs.Looks.{HasFitting}
use Rattle.decision_find.proofs.Located.{decides_located}
use Rattle.decision_find.proofs.tracking.DecisionTracking.note_operands.Goals as goal

pub note_all-requires-clause-located : goal.note_all-requires-clause-located
note_all-requires-clause-located c =
    let fits = subst (λ (o : Option Instr). HasFitting o) c.in-Some.is c.requires.fits in
    subst AreLocations (sym (c.as_slice.ensures.value ∙ c.decisions_of.ensures))
    (decides_located c.args.self.now.rule c.args.look.now.kind c.in-Some.instr fits)
