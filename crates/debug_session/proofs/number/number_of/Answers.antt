use Rattle.std.proofs.Common.{◌≡◌, ◌+◌, get_or, drop, sym, ap, ◌∙◌, arith}
use Rattle.std.proofs.lemmas.Grind.{common_steps}
use Rattle.debug_session.proofs.Numbers.{within, with_digit, digit_read}
use Rattle.debug_session.proofs.number.number_of.Goals as goal

pub loop-digit-preserved : goal.loop-digit-preserved
loop-digit-preserved c =
    let digits = c.args.digits.now in
    let i = c.loop-digit.digit-index in
    let n = c.loop-digit.value in
    let value : c.saturating_add-value.result ≡ with_digit n (get_or digits i 0) =
    rw (c.saturating_mul.ensures, c.from.ensures) at c.saturating_add-value.ensures in
    let is = sym c.is_ascii_digit.ensures.value ∙ c.if-not-is_ascii_digit.false in
    record {
      same = ap (within (drop (i + 1) digits)) value ∙ digit_read digits i n c.loop-digit-test.true is ∙ c.loop-digit.invariant.same;
      digits = grind (arith, common_steps);
      fits = omega arith;
    }
