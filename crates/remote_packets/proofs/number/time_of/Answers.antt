use Rattle.std.proofs.Common.{◌≡◌, ℕ, length, get_or, sym, ap, ◌∙◌, arith}
use Rattle.std.proofs.lemmas.Bool.{eqb-true}
use Rattle.remote_packets.specs.Numbers.{decimal_digits, time_after}
use Rattle.remote_packets.proofs.Times.{with_digit, behind, digit_read, all_read}
use Rattle.remote_packets.proofs.number.time_of.Goals as goal

pub loop-rest-preserved : goal.loop-rest-preserved
loop-rest-preserved c =
    let rest = c.loop-rest.rest.now in
    let low = get_or rest 1 0 in
    let value : c.saturating_add-value.result ≡ with_digit c.loop-rest.value low =
    rw (c.saturating_mul.ensures, c.from.ensures) at c.saturating_add-value.ensures in
    let is = sym c.is_ascii_digit.ensures.value ∙ c.if-not-is_ascii_digit.false in
    let read = digit_read rest c.loop-rest.value c.in-len2-up.len_at_least c.if-high-ne51.false is in
    record {
      same = ap (λ (v : ℕ). time_after v (decimal_digits (behind rest))) value ∙ read ∙ c.loop-rest.invariant.same;
      fits = omega arith;
    }

pub returns-then-is_empty-2 : goal.returns-then-is_empty-2
returns-then-is_empty-2 c =
    let rest = c.loop-rest.rest.now in
    let some = sym c.is_empty.ensures ∙ c.if-is_empty.false in
    let none = eqb-true (length rest) 0 (sym c.is_empty-2.ensures ∙ c.if-is_empty-2.true) in
    rw some (sym (all_read rest c.loop-rest.value c.loop-rest.invariant.fits none) ∙ c.loop-rest.invariant.same)
