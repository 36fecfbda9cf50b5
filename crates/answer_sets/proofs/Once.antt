-- What an answer adds to what was gathered: nothing, where there is none, and where it was gathered already.
use Rattle.std.proofs.Common.{◌≡◌, ℕ, List, [], refl, ap, sym, ◌∙◌, Bool, true, false, ◌||◌}
use Rattle.flow_model.specs.declared.SourceByte.{SourceByte}
use Rattle.flow_model.specs.Orders.{source_cmp}
use Rattle.lists.specs.Sets.{has}
use Rattle.answer_sets.specs.Gathered.{is_at_one_of, AreGathered}

nothing_more : (a c : Bool) → (c ≡ true → a ≡ true) → a ≡ (a || c)
nothing_more true c h = refl
nothing_more false true h = h refl
nothing_more false false h = refl

pub none_added : (gathered answer : List SourceByte) → answer ≡ [] → (b : SourceByte) → has source_cmp b gathered ≡ (has source_cmp b gathered || has source_cmp b answer)
none_added gathered answer none b =
    nothing_more (has source_cmp b gathered) (has source_cmp b answer) (λ h. let no : false ≡ true = sym (ap (has source_cmp b) none) ∙ h in cc)

pub again_added : (answers : List (List SourceByte)) (places here : List ℕ) (gathered answer set : List SourceByte) → AreGathered answers places gathered
    → here ≡ places → answer ≡ set → ((b : SourceByte) → has source_cmp b set ≡ true → is_at_one_of answers here b ≡ true)
    → (b : SourceByte) → has source_cmp b gathered ≡ (has source_cmp b gathered || has source_cmp b answer)
again_added answers places here gathered answer set all same is shared b =
    nothing_more (has source_cmp b gathered) (has source_cmp b answer)
    (λ h. all b (ap (λ (ps : List ℕ). is_at_one_of answers ps b) (sym same) ∙ shared b (sym (ap (has source_cmp b) is) ∙ h)))

-- a set that is the answer was added
pub set_added : (old new set answer : List SourceByte) → set ≡ answer
    → ((b : SourceByte) → has source_cmp b new ≡ (has source_cmp b old || has source_cmp b set))
    → (b : SourceByte) → has source_cmp b new ≡ (has source_cmp b old || has source_cmp b answer)
set_added old new set answer is added b = added b ∙ ap (λ (bs : List SourceByte). has source_cmp b old || has source_cmp b bs) is
