use Rattle.std.proofs.Common.{◌≡◌, ◌+◌, ◌-◌, ap, sym, ◌∙◌, subst, length}
use Rattle.epoch_cut.specs.Shapes.{times_of}
use Rattle.epoch_cut.specs.declared.cutting.Shape.TheVariants.{LongFirst, Shrinking}
use Rattle.epoch_cut.proofs.CutTimes.{from-counted}
use Rattle.epoch_cut.proofs.Shrinking.{shrinking-counted}
use Rattle.epoch_cut.proofs.cutting.Cuts.count.Goals as goal

pub returns-in-LongFirst-clause-is : goal.returns-in-LongFirst-clause-is
returns-in-LongFirst-clause-is c =
    let first = c.in-LongFirst.lengths in
    let s = c.self.inside.steps in
    let by = c.self.inside.length in
    let seen : times_of (LongFirst first) s by ≡ c.args.self.now = subst (λ shape. times_of shape s by ≡ c.args.self.now) c.in-LongFirst.is c.self.view_is in
    ap (λ n. n + 1 - first) c.epoch_count.ensures ∙ sym (from-counted first s by) ∙ ap length seen

pub returns-in-Shrinking-clause-is : goal.returns-in-Shrinking-clause-is
returns-in-Shrinking-clause-is c =
    let epochs = c.in-Shrinking.epochs in
    let s = c.self.inside.steps in
    let by = c.self.inside.length in
    let seen : times_of (Shrinking epochs) s by ≡ c.args.self.now = subst (λ shape. times_of shape s by ≡ c.args.self.now) c.in-Shrinking.is c.self.view_is in
    sym (shrinking-counted epochs s by) ∙ ap length seen
