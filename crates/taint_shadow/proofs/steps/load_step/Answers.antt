use Rattle.std.proofs.Common.{◌≡◌, ◌&&◌, ℕ, Bool, Some, ap, ap₂, sym, subst, ◌∙◌}
use Rattle.std.proofs.lemmas.Result.{on_ok_weaker}
use Rattle.isa.specs.declared.Instr.{Instr}
use Rattle.flow_model.specs.Flow.{flow}
use Rattle.flow_rule.specs.declared.shape.Shape.TheVariants as shape
use Rattle.flow_rule.specs.Shapes.{targets_of, fills_by}
use Rattle.rv_decode.specs.Accesses.{load_of}
use Rattle.taint_shadow.specs.Steps.{Turned}
use Rattle.taint_shadow.proofs.Accesses.{load_flow}
use Rattle.taint_shadow.proofs.steps.load_step.Goals.{then-is_signed, else-is_signed}
use Rattle.taint_shadow.proofs.steps.load_step.Goals as goal

pub returns-clause-turned : goal.returns-clause-turned
returns-clause-turned g c =
    let load = c.args.load in
    let rule = c.args.rule in
    let fills : c.if-is_signed.fills ≡ (load.is_signed && fills_by rule) = elim c.if-is_signed.branch [
      | then-is_signed w ↦ w.fills-is ∙ w.fills_above-fills.ensures ∙ sym (ap (λ (b : Bool). b && fills_by rule) w.if-is_signed.true)
      | else-is_signed w ↦ w.fills-is ∙ w.if-is_signed.false ∙ sym (ap (λ (b : Bool). b && fills_by rule) w.if-is_signed.false)
    ] in
    let same = λ (instr : Instr) (is : load_of instr ≡ Some load).
    ap₂ (λ (b : ℕ) (f : Bool). targets_of (shape.Load load.rd b c.args.place load.size f)) c.counted_base.ensures fills ∙ load_flow rule instr c.args.place load is in
    let turned = Turned g.A.Labels.words c.args.labels.now c.args.places.now c.turn_by_load.new.labels c.turn_by_load.new.places in
    on_ok_weaker {Q = (instr : Instr) → load_of instr ≡ Some load → turned (flow rule instr c.args.place)} _ (λ turns instr is. subst turned (same instr is) turns) c.turn_by_load.ensures

pub returns-clause-standing : goal.returns-clause-standing
returns-clause-standing g c = on_ok_weaker c.turn_by_load.result (λ turns. turns.standing) c.turn_by_load.ensures

pub returns-clause-keeps : goal.returns-clause-keeps
returns-clause-keeps g c = on_ok_weaker c.turn_by_load.result (λ turns. turns.keeps) c.turn_by_load.ensures
