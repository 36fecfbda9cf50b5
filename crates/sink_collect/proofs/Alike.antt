-- Lists of source bytes that test as equal are the same. Crates above cite this lemma.
use Rattle.std.proofs.Common.{◌≡◌, List, Bool, true, refl, subst, arith}
use Rattle.std.specs.Cmp.Lexicographic.{pointwise}
use Rattle.std.proofs.lemmas.Grind.{common_steps}
use Rattle.std.proofs.lemmas.Slice.Eq.{slice_eq-Decides}
use Rattle.flow_model.specs.declared.SourceByte.{SourceByte}
use Rattle.flow_model.specs.contracts.SourceBytePartialEq.TheImpl as test

-- the derived test
abbrev pub alike : SourceByte → SourceByte → Bool
alike = test.eq-value.it

alike_same : (a b : SourceByte) → alike a b ≡ true → a ≡ b
alike_same a b h = grind (arith, common_steps)

alike_itself : (a : SourceByte) → alike a a ≡ true
alike_itself a = grind (arith, common_steps)

pub same_sources : (xs ys : List SourceByte) → pointwise alike xs ys ≡ true → xs ≡ ys
same_sources xs ys =
    (slice_eq-Decides {E = alike} (λ a b. (alike_same a b, λ e. subst (λ (x : SourceByte). alike a x ≡ true) e (alike_itself a))) xs ys _ refl).0
