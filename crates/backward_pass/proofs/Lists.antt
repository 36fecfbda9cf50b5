-- Items of lists by number.
use Rattle.std.proofs.Common.{◌≡◌, ℕ, zero, suc, ◌+◌, List, [], ◌∷◌, map, drop, refl, ap, ◌∙◌, sym, arith, slice_get, Some, add-one, drop-cons}
use Rattle.std.proofs.lemmas.Option.{slice_get_within, get_or_from_slice_get}
use Rattle.epoch_model.specs.Summary.{SinkTerms, Terms}

pub item_after : {X : Type 0} (xs : List X) (i : ℕ) (x : X) → slice_get xs i ≡ Some x → drop i xs ≡ x ∷ drop (i + 1) xs
item_after xs i x is = rw add-one (drop-cons xs i x (slice_get_within xs i x is) ∙ ap (λ (y : _). y ∷ drop (suc i) xs) (get_or_from_slice_get xs i x x is))

pub sink_after : (ks : List SinkTerms) (i : ℕ) (t : Terms) → slice_get (map (λ k. k.terms) ks) i ≡ Some t → (k : SinkTerms) × (k.terms ≡ t) × (drop i ks ≡ k ∷ drop (i + 1) ks)
sink_after [] i t is = cc
sink_after (k ∷ ks) zero t is = (k, cc, refl)
sink_after (k ∷ ks) (suc i) t is =
    let later : suc i + 1 ≡ suc (i + 1) = omega arith in
    let next = sink_after ks i t is in
    (next.0, next.1, next.2 ∙ ap (λ (j : ℕ). next.0 ∷ drop j (k ∷ ks)) (sym later))
