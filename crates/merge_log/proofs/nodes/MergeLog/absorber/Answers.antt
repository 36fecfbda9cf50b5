use Rattle.std.proofs.Common.{arith}
use Rattle.merge_log.proofs.Unions.{absorbed, absorbed_terms, apart}
use Rattle.merge_log.proofs.nodes.MergeLog.absorber.Goals as goal
use Rattle.merge_log.proofs.nodes.MergeLog.absorber.Goals.{else-left-gt0-via-then-left-gt0+then-left-right+else-has_operand, else-left-gt0-via-then-left-gt0+else-left-right, else-left-gt0-via-else-left-gt0}

pub returns-then-has_operand-clause-terms : goal.returns-then-has_operand-clause-terms
returns-then-has_operand-clause-terms c =
    absorbed_terms c.args.self.now c.args.a c.args.b c.in_order-left.result.0 c.in_order-left.result.1 c.form.ensures.log.ordered c.in_order-left.ensures.both (c.has_operand.ensures.0 c.if-has_operand.true)

pub returns-then-has_operand-clause-absorbed : goal.returns-then-has_operand-clause-absorbed
returns-then-has_operand-clause-absorbed c =
    absorbed c.args.self.now c.args.a c.args.b c.in_order-left.result.0 c.in_order-left.result.1 c.form.ensures.log.ordered c.in_order-left.ensures.both c.requires.left c.requires.right (c.has_operand.ensures.0 c.if-has_operand.true)

pub returns-clause-apart : goal.returns-clause-apart
returns-clause-apart c none =
    apart c.args.self.now c.args.a c.args.b c.in_order-left.result.0 c.in_order-left.result.1 c.form.ensures.log.ordered c.in_order-left.ensures.both c.in_order-left.ensures.ordered (λ p q h.
    elim c.else-left-gt0.branch [
      | else-left-gt0-via-then-left-gt0+then-left-right+else-has_operand w ↦ let found = w.has_operand.ensures.1 h in let lacks = w.if-has_operand.false in cc
      | else-left-gt0-via-then-left-gt0+else-left-right w ↦ omega (arith, w.if-left-right.false)
      | else-left-gt0-via-else-left-gt0 w ↦ omega (arith, w.if-left-gt0.false)
    ])
