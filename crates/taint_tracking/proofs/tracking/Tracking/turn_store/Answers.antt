use Rattle.std.proofs.Common.{refl, subst}
use Rattle.std.proofs.lemmas.Result.{on_ok_weaker}
use Rattle.flow_model.specs.declared.Rule.{Rule}
use Rattle.flow_model.specs.Flow.{flow}
use Rattle.taint_shadow.specs.Steps.{Turned}
use Rattle.taint_tracking.proofs.Following.{turned_sound}
use Rattle.taint_tracking.proofs.tracking.Tracking.turn_store.Goals as goal

pub returns-clause-sound : goal.returns-clause-sound
returns-clause-sound g c = turned_sound g.L.Labels.words c.store_step.result c.args.self.now c.store_step.new.labels c.store_step.new.places c.requires.sound c.store_step.ensures.standing c.store_step.ensures.keeps

pub returns-clause-turned : goal.returns-clause-turned
returns-clause-turned g c =
    let old = c.args.self.now in
    let turned = Turned g.L.Labels.words old.labels old.places c.store_step.new.labels c.store_step.new.places in
    on_ok_weaker c.store_step.result (λ turns instr is. record { labels = subst (λ (r : Rule). turned (flow r instr c.args.place)) c.rule-rule.ensures (turns instr is); rest = refl }) c.store_step.ensures.turned
