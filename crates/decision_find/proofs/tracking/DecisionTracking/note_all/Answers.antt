use Rattle.std.proofs.Common.{sym, subst, List}
use Rattle.std.proofs.lemmas.List.{take_more}
use Rattle.flow_model.specs.declared.Loc.{Loc}
use Rattle.flow_model.specs.declared.Loc.TheVariants.{Reg}
use Rattle.flow_model.proofs.Located.{located-get_or}
use Rattle.decision_find.specs.Following.{Notes}
use Rattle.decision_find.proofs.Noted.{noted_then}
use Rattle.decision_find.proofs.tracking.DecisionTracking.note_all.Goals as goal

pub note_one-requires-clause-located : goal.note_one-requires-clause-located
note_one-requires-clause-located c = located-get_or c.args.locs.now c.loop-loc.loc-index (Reg 0 0) c.requires.located c.loop-loc-test.true

pub loop-loc-preserved : goal.loop-loc-preserved
loop-loc-preserved c =
    let locs = c.args.locs.now in
    let i = c.loop-loc.loc-index in
    record {
      sound = c.in_ok-note_one.ensures.sound;
      noted = subst (λ (ls : List Loc). Notes c.args.look.now ls c.args.self.now c.note_one.new.self) (sym (take_more locs i (Reg 0 0) c.loop-loc-test.true))
          (noted_then c.args.look.now _ _ c.args.self.now c.loop-loc.self c.note_one.new.self c.requires.sound.locations c.loop-loc.invariant.noted c.in_ok-note_one.ensures.noted);
    }
