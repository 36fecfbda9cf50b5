use Rattle.std.proofs.Common.{◌∙◌}
use Rattle.std.proofs.lemmas.Result.{IfOk-weaker}
use Rattle.merge_log.proofs.Unions.{made, made_terms, made_there}
use Rattle.merge_log.proofs.nodes.MergeLog.make_union.Goals as goal

pub returns-clause-terms : goal.returns-clause-terms
returns-clause-terms c =
    IfOk-weaker c.insert_union.result _ _ (λ n h. h ∙ made_terms c.args.self.now c.args.a c.args.b c.in_order-left.result.0 c.in_order-left.result.1 c.form.ensures.log.ordered c.insert_union.new.self c.insert_union.ensures.kept c.in_order-left.ensures.both c.requires.left c.requires.right) c.insert_union.ensures.terms

pub returns-clause-united : goal.returns-clause-united
returns-clause-united c =
    IfOk-weaker c.insert_union.result _ _ (λ n h. made c.args.self.now c.args.a c.args.b c.in_order-left.result.0 c.in_order-left.result.1 c.form.ensures.log.ordered c.insert_union.new.self n c.in_order-left.ensures.both c.in_order-left.ensures.ordered c.requires.two.differ c.requires.two.left c.requires.two.right h) c.insert_union.ensures.noted

pub returns-clause-there : goal.returns-clause-there
returns-clause-there c h = c.insert_union.ensures.there (made_there c.args.self.now c.args.a c.args.b c.in_order-left.result.0 c.in_order-left.result.1 c.form.ensures.log.ordered c.in_order-left.ensures.both c.in_order-left.ensures.ordered c.requires.two.differ c.requires.two.left c.requires.two.right h)
