use Rattle.std.proofs.lemmas.Result.{IfOk-weaker}
use Rattle.merge_log.proofs.Unions.{covered_terms, absorbed_apart, united_apart}
use Rattle.merge_log.proofs.nodes.MergeLog.absorb_or_make.Goals as goal

pub returns-then-has-clause-terms : goal.returns-then-has-clause-terms
returns-then-has-clause-terms c =
    covered_terms c.args.self.now c.args.a c.args.b c.in_order-left.result.0 c.in_order-left.result.1 c.form.ensures.log.ordered c.in_order-left.ensures.both (rw (← c.self.view_is) (c.has.ensures c.if-has.true c.self.inside.entries.keys c.self.invariant.1))

pub returns-then-has-clause-absorbed : goal.returns-then-has-clause-absorbed
returns-then-has-clause-absorbed c =
    absorbed_apart c.args.self.now c.args.a c.args.b c.in_order-left.result.0 c.in_order-left.result.1 c.form.ensures.log.ordered c.in_order-left.ensures.both c.requires.left c.requires.right c.requires.apart

pub returns-clause-absorbed : goal.returns-clause-absorbed
returns-clause-absorbed c =
    IfOk-weaker c.make_union.result _ _ (λ n h. united_apart c.args.self.now c.args.a c.args.b c.make_union.new.self n c.requires.apart h) c.make_union.ensures.united
