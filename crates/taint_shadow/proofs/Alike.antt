-- Labels that test as equal are the same. Crates above cite this lemma.
use Rattle.std.proofs.Common.{◌≡◌, ℕ, true, ap, arith}
use Rattle.std.proofs.lemmas.Grind.{common_steps}
use Rattle.taint_shadow.specs.declared.labels.Label.{Label}
use Rattle.taint_shadow.specs.contracts.labels.LabelPartialEq.TheImpl as label_test

pub same_label : (l m : Label) → label_test.eq-value.it l m ≡ true → l ≡ m
same_label l m h = let same : l.number ≡ m.number = grind (arith, common_steps) in ap (λ (n : ℕ). record { number = n }) same
