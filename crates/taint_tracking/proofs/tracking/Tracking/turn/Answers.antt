use Rattle.std.proofs.Common.{refl, subst}
use Rattle.std.proofs.lemmas.Result.{on_ok_weaker}
use Rattle.flow_model.specs.declared.Rule.{Rule}
use Rattle.flow_model.specs.Flow.{flow}
use Rattle.taint_shadow.specs.Steps.{Turned}
use Rattle.taint_tracking.proofs.Following.{turned_sound}
use Rattle.taint_tracking.proofs.tracking.Tracking.turn.Goals as goal

pub returns-clause-sound : goal.returns-clause-sound
returns-clause-sound g c =
    let r = c.plain_step.result in
    let turned = c.plain_step.ensures in
    turned_sound g.L.Labels.words r c.args.self.now c.plain_step.new.labels c.plain_step.new.places c.requires.sound (on_ok_weaker r (λ turns. turns.standing) turned) (on_ok_weaker r (λ turns. turns.keeps) turned)

pub returns-clause-turned : goal.returns-clause-turned
returns-clause-turned g c =
    let old = c.args.self.now in
    let turned = Turned g.L.Labels.words old.labels old.places c.plain_step.new.labels c.plain_step.new.places in
    on_ok_weaker c.plain_step.result (λ turns. record { labels = subst (λ (r : Rule). turned (flow r c.args.instr.now 0)) c.rule-rule.ensures turns; rest = refl }) c.plain_step.ensures
