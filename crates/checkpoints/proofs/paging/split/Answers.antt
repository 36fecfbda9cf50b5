use Rattle.std.proofs.Common.{rules, ◌≡◌, ℕ, ◌+◌, ◌<◌, suc, List, length, get_or, arith, ap, ap₂, sym, ◌∙◌, subst, add-one}
use Rattle.std.specs.List.{All}
use Rattle.checkpoints.specs.Pages.{page, changed_among, differs, IsHeld}
use Rattle.checkpoints.specs.Touched.{AreOthersHeld, IsHeldUntouched}
use Rattle.checkpoints.proofs.Splitting.{page_cut, before_is, next_is_held, held_later, extended_none, extended_twice, pages_later, below_later, below_more, nonempty, all_places}
use Rattle.checkpoints.proofs.paging.split.Goals as goal

pub returns-in_err-push-clause-extended : goal.returns-in_err-push-clause-extended
returns-in_err-push-clause-extended c = extended_twice c.args.pages.now c.loop-place.pages c.number_at.new.pages c.loop-place.invariant.extended c.number_at.ensures.extended

pub loop-place-preserved : goal.loop-place-preserved
loop-place-preserved c =
    let place = c.loop-place.place in
    let bytes = c.args.bytes.now in
    let before = c.args.before.now in
    let flags = c.args.touched.now.flags in
    let so_far = c.loop-place.invariant in
    let numbers = c.loop-place.numbers.items in
    let grown = c.number_at.ensures.extended in
    let cut = page_cut bytes place c.min-past.result c.min-past.ensures in
    let untouched : AreOthersHeld flags c.args.pages.now before bytes → IsHeldUntouched c.is_touched.result c.loop-place.pages before place (page bytes place) =
    λ others t within. held_later c.args.pages.now c.loop-place.pages (get_or before place 0) (page bytes place) so_far.extended (others place (sym c.is_touched.ensures ∙ t) within) in
    record {
      long = search rules;
      below = subst (All (λ (number : ℕ). number < length c.number_at.new.pages)) (sym c.in_ok-push.ensures.items) (below_more c.loop-place.pages c.number_at.new.pages numbers c.in_ok-number.number grown so_far.below c.in_ok-number.ensures.below);
      extended = extended_twice c.args.pages.now c.loop-place.pages c.number_at.new.pages so_far.extended grown;
      each = λ others.
          let held = subst (IsHeld c.number_at.new.pages c.in_ok-number.number) cut (c.in_ok-number.ensures.held (subst (IsHeldUntouched c.is_touched.result c.loop-place.pages before place) (sym cut) (untouched others))) in
          let each = next_is_held c.loop-place.pages c.number_at.new.pages numbers bytes c.in_ok-number.number place grown so_far.long (so_far.each others) held in
          subst (λ (ns : List ℕ). (k : ℕ) → k < place + 1 → IsHeld c.number_at.new.pages (get_or ns k 0) (page bytes k)) (sym c.in_ok-push.ensures.items) each;
      count = λ window others are.
          let was = before_is c.loop-place.pages before window place (pages_later c.args.pages.now c.loop-place.pages before window so_far.extended are) in
          let one = ap₂ differs was cut in
          let all : length c.number_at.new.pages ≡ length c.args.pages.now + changed_among (suc place) window bytes = omega (arith, c.in_ok-number.ensures.count (subst (IsHeldUntouched c.is_touched.result c.loop-place.pages before place) (sym cut) (untouched others)), so_far.count window others are, one) in
          all ∙ ap (λ (n : ℕ). length c.args.pages.now + changed_among n window bytes) (sym (add-one place));
    }

pub loop-place-init : goal.loop-place-init
loop-place-init c =
    let none = ap length c.in_ok-numbers.ensures.items in
    record {
      long = none;
      below = λ k d h. absurd (omega (arith, h, none));
      extended = extended_none c.args.pages.now;
      each = λ others k h. absurd (omega (arith, h));
      count = λ window others are. omega arith;
    }

pub number_at-requires-clause-held : goal.number_at-requires-clause-held
number_at-requires-clause-held c = below_later c.args.pages.now c.loop-place.pages c.args.before.now c.loop-place.invariant.extended c.requires.held

pub number_at-requires-clause-some : goal.number_at-requires-clause-some
number_at-requires-clause-some c =
    let bytes = c.args.bytes.now in
    let place = c.loop-place.place in
    let below = subst (λ (n : ℕ). place < n) c.div_ceil-count.ensures c.loop-place-test.true in
    subst (λ (bytes : List ℕ). 0 < length bytes) (sym (page_cut bytes place c.min-past.result c.min-past.ensures)) (nonempty bytes place below)

pub returns-in_err-number-clause-extended : goal.returns-in_err-number-clause-extended
returns-in_err-number-clause-extended c = extended_twice c.args.pages.now c.loop-place.pages c.number_at.new.pages c.loop-place.invariant.extended c.number_at.ensures.extended

pub returns : goal.returns
returns c =
    let so_far = c.loop-place.invariant in
    let all = all_places c.args.bytes.now c.div_ceil-count.result c.loop-place.place c.div_ceil-count.ensures c.loop-place-test.false c.loop-place.auto.place-end in
    record {
      below = so_far.below;
      paged = λ others. record { count = so_far.long ∙ all; each = λ k h. so_far.each others k (subst (λ (n : ℕ). k < n) so_far.long h) };
      extended = so_far.extended;
      count = λ window others are.
          so_far.count window others are ∙ ap (λ (n : ℕ). length c.args.pages.now + changed_among n window c.args.bytes.now) all;
    }
