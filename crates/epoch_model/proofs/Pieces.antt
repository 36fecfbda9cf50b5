-- What flows over a stretch depends on its steps alone. Crates above cite these lemmas.
use Rattle.std.proofs.Common.{◌≡◌, ℕ, zero, suc, ◌+◌, ◌<◌, List, [], ◌∷◌, ◌++◌, length, refl, ap, ap₂, ◌∙◌, arith}
use Rattle.std.specs.Prelude.{Option}
use Rattle.flow_model.specs.declared.Loc.{Loc}
use Rattle.flow_model.specs.declared.Rule.{Rule}
use Rattle.flow_model.specs.declared.SourceByte.{SourceByte}
use Rattle.flow_model.specs.declared.StepSeen.{StepSeen}
use Rattle.lists.specs.Sets.{union}
use Rattle.flow_model.specs.Orders.{source_cmp}
use Rattle.flow_model.specs.Origins.{Policy, origins, union_over, after_step, step_at}
use Rattle.epoch_model.specs.Stretch.{locations_over, from_step, fresh_step, past, born}
use Rattle.epoch_model.specs.StretchLaws.{HaveSameSteps, StretchesAreTheirSteps, PiecesCompose}
use Rattle.epoch_model.proofs.Composing.{origins_compose}

pub union_over_alike : (f g : Loc → List SourceByte) → ((l : Loc) → f l ≡ g l) → (ls : List Loc) → union_over f ls ≡ union_over g ls
union_over_alike f g h ls = λ i. union_over (λ l. h l i) ls

past_by_steps : (rule : Rule) (trace : List StepSeen) (s : ℕ) (other : List StepSeen) (r n : ℕ) → HaveSameSteps trace s other r n → (l : Loc)
    → past rule trace s n l ≡ past rule other r n l
past_by_steps rule trace s other r zero h l = refl
past_by_steps rule trace s other r (suc n) h l =
    ap (λ (o : Option StepSeen). locations_over (past rule trace s n) (from_step rule o l)) (h n (omega arith))
    ∙ λ i. locations_over (λ m. past_by_steps rule trace s other r n (λ j less. h j (omega arith)) m i) (from_step rule (step_at other (r + n)) l)

born_by_steps : (policy : Policy) (trace : List StepSeen) (s : ℕ) (other : List StepSeen) (r n : ℕ) → HaveSameSteps trace s other r n → (l : Loc)
    → born policy trace s n l ≡ born policy other r n l
born_by_steps policy trace s other r zero h l = refl
born_by_steps policy trace s other r (suc n) h l =
    ap (λ (o : Option StepSeen). union source_cmp (fresh_step policy o l) (union_over (born policy trace s n) (from_step policy.rule o l))) (h n (omega arith))
    ∙ ap (union source_cmp (fresh_step policy (step_at other (r + n)) l))
    (union_over_alike _ _ (born_by_steps policy trace s other r n (λ i less. h i (omega arith))) (from_step policy.rule (step_at other (r + n)) l))

pub stretches_are_their_steps : StretchesAreTheirSteps
stretches_are_their_steps policy trace s other r n l h = (past_by_steps policy.rule trace s other r n h l, born_by_steps policy trace s other r n h l)

-- ---- two pieces

step_after : (xs ys : List StepSeen) (i : ℕ) → step_at (xs ++ ys) (length xs + i) ≡ step_at ys i
step_after [] ys i = let none : 0 + i ≡ i = omega arith in ap (step_at ys) none
step_after (x ∷ xs) ys i =
    let more : length (x ∷ xs) + i ≡ suc (length xs + i) = omega arith in
    ap (step_at (x ∷ (xs ++ ys))) more ∙ step_after xs ys i

step_before : (xs ys : List StepSeen) (i : ℕ) → i < length xs → step_at (xs ++ ys) i ≡ step_at xs i
step_before [] ys i h = absurd (omega (arith, h))
step_before (x ∷ xs) ys zero h = refl
step_before (x ∷ xs) ys (suc i) h = step_before xs ys i (omega (arith, h))

-- the origins at a time depend on the steps before it alone
origins_by_steps : (policy : Policy) (trace other : List StepSeen) (t : ℕ) → ((i : ℕ) → i < t → step_at trace i ≡ step_at other i) → (l : Loc)
    → origins policy trace t l ≡ origins policy other t l
origins_by_steps policy trace other zero h l = refl
origins_by_steps policy trace other (suc t) h l =
    let before : origins policy trace t ≡ origins policy other t = λ i m. origins_by_steps policy trace other t (λ j less. h j (omega arith)) m i in
    ap₂ (λ (o : Option StepSeen) (f : Loc → List SourceByte). after_step policy o f l) (h t (omega arith)) before

pub pieces_compose : PiecesCompose
pieces_compose policy xs ys n l =
    let same = stretches_are_their_steps policy (xs ++ ys) (length xs) ys 0 n l
    (λ i less. let none : i ≡ 0 + i = omega arith in step_after xs ys i ∙ ap (step_at ys) none) in
    origins_compose policy (xs ++ ys) (length xs) n l
    ∙ ap₂ (union source_cmp) same.1
    (ap (union_over (origins policy (xs ++ ys) (length xs))) same.0
    ∙ union_over_alike _ _ (origins_by_steps policy (xs ++ ys) xs (length xs) (step_before xs ys)) (past policy.rule ys 0 n l))
