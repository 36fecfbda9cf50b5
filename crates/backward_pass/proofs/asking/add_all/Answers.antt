use Rattle.std.proofs.Common.{get_or, ap, sym, ◌∙◌}
use Rattle.flow_model.specs.declared.Loc.TheVariants.{Reg}
use Rattle.epoch_model.specs.Crossing.{added}
use Rattle.backward_pass.proofs.Starts.{added_next}
use Rattle.backward_pass.proofs.asking.add_all.Goals as goal

pub loop-start-preserved : goal.loop-start-preserved
loop-start-preserved c =
    let starts = c.args.starts.now in
    let i = c.loop-start.start-index in
    c.in_ok-add.ensures.added ∙ ap (λ ls. added ls (get_or starts i (Reg 0 0))) c.loop-start.invariant ∙ sym (added_next c.args.asked.now starts i (Reg 0 0) c.loop-start-test.true)
