use Rattle.std.proofs.Common.{refl, subst}
use Rattle.std.proofs.lemmas.Result.{on_ok_weaker}
use Rattle.flow_model.specs.declared.Rule.{Rule}
use Rattle.flow_model.specs.Flow.{flow}
use Rattle.taint_shadow.specs.Steps.{Turned}
use Rattle.taint_tracking.proofs.Following.{turned_sound}
use Rattle.taint_tracking.proofs.tracking.Tracking.turn_load.Goals as goal

pub returns-clause-sound : goal.returns-clause-sound
returns-clause-sound g c = turned_sound g.L.Labels.words c.load_step.result c.args.self.now c.load_step.new.labels c.load_step.new.places c.requires.sound c.load_step.ensures.standing c.load_step.ensures.keeps

pub returns-clause-turned : goal.returns-clause-turned
returns-clause-turned g c =
    let old = c.args.self.now in
    let turned = Turned g.L.Labels.words old.labels old.places c.load_step.new.labels c.load_step.new.places in
    on_ok_weaker c.load_step.result (λ turns instr is. record { labels = subst (λ (r : Rule). turned (flow r instr c.args.place)) c.rule-rule.ensures (turns instr is); rest = refl }) c.load_step.ensures.turned
