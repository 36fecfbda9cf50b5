use Rattle.std.proofs.Common.{refl, ap, ◌∙◌}
use Rattle.decision_find.specs.Decides.{deciding_rule}
use Rattle.decision_find.proofs.Followed.{sound_first, begun}
use Rattle.decision_find.proofs.tracking.DecisionTracking.begin.Goals as goal

pub returns-clause-sound : goal.returns-clause-sound
returns-clause-sound c = sound_first _ c.in_ok-new.ensures (c.new-3.ensures.stand c.new.result)

pub returns-clause-tracked : goal.returns-clause-tracked
returns-clause-tracked c job =
    begun c.args.query.now job _ refl (c.deciding_rule.ensures ∙ ap deciding_rule c.rule.ensures) c.in_ok-new.ensures
    (c.new-3.ensures.stand c.new.result) (c.new-3.ensures.groups c.new.result)
