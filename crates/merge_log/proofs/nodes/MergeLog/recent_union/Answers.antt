use Rattle.std.proofs.Common.{◌∙◌}
use Rattle.merge_log.proofs.Keys.{noted_here, noted_terms}
use Rattle.merge_log.proofs.Terms.{with_itself, with_nothing, nothing_with}
use Rattle.merge_log.proofs.Unions.{made, made_terms}
use Rattle.merge_log.proofs.nodes.MergeLog.recent_union.Goals as goal
use Rattle.merge_log.proofs.nodes.MergeLog.recent_union.Goals.{then-a-b-via-then-a-b, then-a-b-via-else-a-b+then-b-eq0}
use Rattle.merge_log.proofs.Keeping.{keeps_all}

pub returns-then-a-b-clause-terms : goal.returns-then-a-b-clause-terms
returns-then-a-b-clause-terms c =
    elim c.then-a-b.branch [
      | then-a-b-via-then-a-b w ↦ with_itself c.args.self.now c.args.a c.args.b w.if-a-b.true
      | then-a-b-via-else-a-b+then-b-eq0 w ↦ with_nothing c.args.self.now c.args.a c.args.b w.if-b-eq0.true
    ]

pub returns-then-a-eq0-clause-terms : goal.returns-then-a-eq0-clause-terms
returns-then-a-eq0-clause-terms c = nothing_with c.args.self.now c.args.a c.args.b c.if-a-eq0.true

-- the node that was noted lately is that of the union
pub returns-then-is_union_of-clause-terms : goal.returns-then-is_union_of-clause-terms
returns-then-is_union_of-clause-terms c =
    let log = c.args.self.now in
    noted_terms log _ log _ c.form.ensures.log (noted_here log _ _ (c.is_union_of.ensures c.if-is_union_of.true))
    ∙ made_terms log c.args.a c.args.b c.in_order-left.result.0 c.in_order-left.result.1 c.form.ensures.log.ordered log (keeps_all log) c.in_order-left.ensures.both c.requires.left c.requires.right

pub returns-then-is_union_of-clause-united : goal.returns-then-is_union_of-clause-united
returns-then-is_union_of-clause-united c =
    let log = c.args.self.now in
    made log c.args.a c.args.b c.in_order-left.result.0 c.in_order-left.result.1 c.form.ensures.log.ordered log _ c.in_order-left.ensures.both c.in_order-left.ensures.ordered c.if-a-b.false c.if-a-eq0.false c.if-b-eq0.false
    (noted_here log _ _ (c.is_union_of.ensures c.if-is_union_of.true))
