-- What labels of source bytes mean after a step are the origins after it. Crates above cite this lemma.
use Rattle.std.proofs.Common.{◌≡◌, ℕ, ◌+◌, Bool, true, false, List, [], ◌∷◌, refl, ap, sym, ◌∙◌, add-one, if◌then◌else◌}
use Rattle.std.specs.Prelude.{Option, Some, None}
use Rattle.flow_model.specs.declared.Loc.{Loc}
use Rattle.flow_model.specs.declared.SourceByte.{SourceByte}
use Rattle.flow_model.specs.declared.StepSeen.{StepSeen}
use Rattle.flow_model.specs.declared.CallSeen.{CallSeen}
use Rattle.flow_model.specs.Flow.{cleared, flow, origins_by, is_received, from_instruction_or}
use Rattle.flow_model.specs.Orders.{source_cmp}
use Rattle.flow_model.specs.Origins.{Policy, union_over, introduced, byte_at, fresh_by, after_step, step_at, origins}
use Rattle.lists.specs.Sets.{union}
use Rattle.taint_shadow.specs.Steps.{united_over, introduced as brought_in, after}
use Rattle.source_labels.specs.Words.{label_words}

over_is : (f : Loc → List SourceByte) (ls : List Loc) → united_over label_words f ls ≡ union_over f ls
over_is f [] = refl
over_is f (l ∷ []) = refl
over_is f (l ∷ m ∷ ls) = ap (union source_cmp (f l)) (over_is f (m ∷ ls))

alone : (b : Bool) (s : SourceByte) → (if b then label_words.source s else label_words.nothing) ≡ union source_cmp (if b then s ∷ [] else []) []
alone true s = refl
alone false s = refl

by_call : (policy : Policy) (f : Loc → List SourceByte) (b : SourceByte) (ls : List Loc) (o : Bool)
    → (if o then brought_in label_words policy b else united_over label_words f (if o then [] else ls))
    ≡ union source_cmp (if o then introduced policy b else []) (union_over f (if o then [] else ls))
by_call policy f b ls true = alone (policy.introduces b) b
by_call policy f b ls false = over_is f ls

after_is : (policy : Policy) (step : StepSeen) (call : Option CallSeen) (f : Loc → List SourceByte) (l : Loc)
    → after label_words policy step call f l ≡ union source_cmp (fresh_by policy call l) (union_over f (from_instruction_or policy.rule step call l))
after_is policy step None f l = over_is f (origins_by (flow policy.rule step.instr step.place) l)
after_is policy step (Some call) f l = by_call policy f (byte_at call l) (origins_by (cleared call.kind) l) (is_received call l)

-- the origins at a time are what a step makes of those before it
pub origins_later : (policy : Policy) (trace : List StepSeen) (t : ℕ) (step : StepSeen) (l : Loc) → step_at trace t ≡ Some step
    → after label_words policy step step.call (origins policy trace t) l ≡ origins policy trace (t + 1) l
origins_later policy trace t step l at =
    after_is policy step step.call (origins policy trace t) l ∙ ap (λ (o : Option StepSeen). after_step policy o (origins policy trace t) l) (sym at)
    ∙ ap (λ (k : ℕ). origins policy trace k l) (sym (add-one t))
