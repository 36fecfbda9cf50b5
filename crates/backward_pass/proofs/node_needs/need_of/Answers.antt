use Rattle.std.proofs.Common.{refl, sym, subst, min, length, ap, ◌∙◌}
use Rattle.merge_log.specs.Log.{terms}
use Rattle.backward_pass.specs.Needs.{IsNeed}
use Rattle.backward_pass.proofs.Needs.{leaf_need, start_least, union_need}
use Rattle.backward_pass.proofs.node_needs.need_of.Goals as goal

pub returns-in-Source-clause-need : goal.returns-in-Source-clause-need
returns-in-Source-clause-need c = leaf_need c.args.log.now c.args.asked.now c.args.node _ c.in-Source.ensures.at tt refl

pub returns-in-Run-clause-need : goal.returns-in-Run-clause-need
returns-in-Run-clause-need c = leaf_need c.args.log.now c.args.asked.now c.args.node _ c.in-Run.ensures.at tt refl

pub returns-in_ok-needed-in-Start-clause-need : goal.returns-in_ok-needed-in-Start-clause-need
returns-in_ok-needed-in-Start-clause-need c =
    start_least c.args.log.now c.args.asked.now c.args.node c.add_start.new.asked c.in-Start.loc c.in_ok-needed-in-Start.needed _ c.in-Start.ensures.at (c.requires.start c.in-Start.loc c.in-Start.ensures.at)
    c.in_ok-needed-in-Start.ensures.added c.in_ok-needed-in-Start.ensures.up_to
    (c.min.ensures ∙ ap (λ ls. min c.in_ok-needed-in-Start.needed (length ls)) c.locations.ensures)

pub returns-in-Union-clause-need : goal.returns-in-Union-clause-need
returns-in-Union-clause-need c =
    subst (IsNeed c.args.asked.now (terms c.args.log.now c.args.node).starts) (sym c.max.ensures)
    (union_need c.args.log.now c.args.asked.now c.args.node c.args.needs.now c.in-Union.left c.in-Union.right c.in-Union.ensures.at c.in-Union.ensures.before c.requires.operands)
