use Rattle.std.proofs.Common.{◌≡◌, Bool, true, sym, ap, ◌∙◌, subst, arith}
use Rattle.std.specs.List.{flat_map}
use Rattle.std.proofs.lemmas.Grind.{common_steps}
use Rattle.std.proofs.lemmas.Slice.Eq.{slice_eq-Decides}
use Rattle.source_ranges.specs.declared.SourceRange.{SourceRange}
use Rattle.source_ranges.specs.contracts.SourceRangePartialEq.TheImpl as test
use Rattle.source_ranges.specs.Ranges.{bytes_of, ranges_of}
use Rattle.source_ranges.proofs.Kept.{bytes-ranges}
use Rattle.source_ranges.proofs.set.SourceSet.equals.Goals as goal

-- the derived test
abbrev alike : SourceRange → SourceRange → Bool
alike = test.eq-value.it

alike_same : (a b : SourceRange) → alike a b ≡ true → a ≡ b
alike_same a b h = grind (arith, common_steps)

alike_itself : (a : SourceRange) → alike a a ≡ true
alike_itself a = grind (arith, common_steps)

pub returns : goal.returns
returns c =
    let tests = slice_eq-Decides {E = alike} (λ a b. (alike_same a b, λ e. subst (λ (x : SourceRange). alike a x ≡ true) e (alike_itself a)))
    c.ranges-2.result.now c.ranges-3.result.now _ c.eq.ensures in (
      (λ same. sym (bytes-ranges c.args.self.now) ∙ ap (flat_map bytes_of) (sym c.ranges-2.ensures.value ∙ tests.0 same ∙ c.ranges-3.ensures.value)
          ∙ bytes-ranges c.args.other.now),
      (λ same. tests.1 (c.ranges-2.ensures.value ∙ ap ranges_of same ∙ sym c.ranges-3.ensures.value)),
    )
