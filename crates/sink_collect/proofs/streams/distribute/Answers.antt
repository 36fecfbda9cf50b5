use Rattle.std.proofs.Common.{◌≡◌, ◌∙◌, ap, sym, subst, append_assoc, ℕ, zero, suc, ◌<◌, List, [], ◌∷◌, ◌++◌, length}
use Rattle.std.proofs.Common.{get_or, set, arith, rules}
use Rattle.std.specs.List.{flat_map}
use Rattle.std.specs.List.Sorted.{IsPermutation}
use Rattle.std.specs.Vec.Iter.{into_iter_items}
use Rattle.std.proofs.lemmas.List.Sorted.{IsPermutation-append_left, IsPermutation-append_right, IsPermutation-middle}
use Rattle.std.proofs.lemmas.List.Sorted.{IsPermutation-sym, IsPermutation-to_front, IsPermutation-trans}
use Rattle.sink_collect.specs.declared.sets.SinkSet.{SinkSet}
use Rattle.sink_collect.proofs.streams.distribute.Goals as goal

module _ {S X : Type 0} (items : S → List X) where
  abbrev all : List S → List X
  all ss = flat_map items ss

  -- one of the lists has one more item, its last
  one_more : (ss : List S) (i : ℕ) (old new : S) (x : X) → i < length ss
      → old ≡ get_or ss i old → items new ≡ items old ++ x ∷ [] → IsPermutation (all ss ++ x ∷ []) (all (set ss i new))
  one_more [] i old new x inside at e = absurd (omega (arith, inside))
  one_more (s ∷ ss) zero old new x inside at e =
      let same : items s ++ x ∷ [] ≡ items new = ap (λ (o : S). items o ++ x ∷ []) (sym at) ∙ sym e in
      let joined = sym (append_assoc (items s) (x ∷ []) (all ss)) ∙ ap (λ (l : List X). l ++ all ss) same in
      subst (IsPermutation ((items s ++ all ss) ++ x ∷ [])) joined
      (IsPermutation-trans _ _ _ (IsPermutation-to_front (items s ++ all ss) x)
      (IsPermutation-sym _ _ (IsPermutation-middle (items s) x (all ss))))
  one_more (s ∷ ss) (suc i) old new x inside at e =
      subst (λ (l : List X). IsPermutation l (items s ++ all (set ss i new)))
      (sym (append_assoc (items s) (all ss) (x ∷ [])))
      (IsPermutation-append_right (items s) (all ss ++ x ∷ []) (all (set ss i new))
      (one_more ss i old new x (omega (arith, inside)) at e))

pub loop-set-preserved : goal.loop-set-preserved
loop-set-preserved c =
    let before = c.loop-set.streams.items in
    let i = c.stream_of.result in
    let stream = c.push.new.self in
    let x = c.in-Some.set in
    let put : List SinkSet = flat_map (λ s. s.items) before in
    let now : List SinkSet = flat_map (λ s. s.items) (set before i stream) in
    let left : List SinkSet = into_iter_items c.next.new.self in
    let inside : i < length before = omega (arith, c.stream_of.ensures, c.loop-set.invariant.streams) in
    let more : IsPermutation (put ++ x ∷ []) now =
    one_more (λ s. s.items) before i c.index_mut.result.now stream x inside
    c.index_mut.ensures.value c.in_ok-push.ensures.items in
    record {
      streams = search rules;
      same = IsPermutation-trans _ _ _ c.loop-set.invariant.same
          (subst (λ (l : List SinkSet). IsPermutation l (now ++ left))
          (append_assoc put (x ∷ []) left ∙ ap (λ (l : List SinkSet). put ++ l) (sym c.in-Some.ensures.steps.0))
          (IsPermutation-append_left left _ _ more));
    }
