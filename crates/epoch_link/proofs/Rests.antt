-- What is left when one seat has both parts.
use Rattle.std.proofs.Common.{◌≡◌, ◌≢◌, ℕ, List, [], ◌∷◌, ◌++◌, length, drop, Option, Some, None, Bool, true, false, nat_eq, not, sym, refl, ap, ◌∙◌, subst, rules, arith}
use mathlib.Core.Logic.{dite}
use native.Mathlib.Decide.{ℕ_discrete}
use Rattle.std.specs.Prelude.{is_some}
use Rattle.std.proofs.Math.Seq.{drop-append_seam}
use Rattle.epoch_link.specs.Link.{Delivered}
use Rattle.epoch_link.specs.Ring.{Seated, item_at, seen_tail, Remains}
use Rattle.epoch_link.specs.Ends.{AtPop, AtRest, left_of, filled_slot}

same_number : (a b : ℕ) → a ≡ b → not (nat_eq a b) ≡ false
same_number a b e = grind arith

other_number : (a b : ℕ) → a ≢ b → not (nat_eq a b) ≡ true
other_number a b ne = grind arith

module _ {T : Type 0} where
  pub nothing : (l : List T) → is_some (item_at l 0) ≡ false → l ≡ []
  nothing [] e = refl
  nothing (x ∷ xs) e = absurd (search rules)

  -- after a look that took this slot
  looked : (capacity count slot tail : ℕ) (me : Seated T) (next : Option T) (has_next : Bool) → AtPop me capacity count slot None → me.0.produces ≡ true
      → (d : Delivered me.0.sent me.0.got capacity) → item_at d.held 0 ≡ next → has_next ≡ is_some next
      → AtRest (seen_tail me.0 tail next, filled_slot slot next) capacity count slot has_next
  looked capacity count slot tail me next has_next p mine d e told =
      let left : left_of me.0 ≡ d.held = ap (λ (l : List T). drop (length me.0.got) l) d.in_order ∙ drop-append_seam me.0.got d.held in
      let first : next ≡ item_at (left_of me.0) 0 = sym (ap (λ (l : List T). item_at l 0) left ∙ e) in
      let w : Seated T = (seen_tail me.0 tail next, filled_slot slot next) in
      let good : AtPop w capacity count slot next = record { consumes = p.consumes; next_is = refl; out = refl; count_is = p.count_is; slot_is = p.slot_is } in
      record {
        produces = mine;
        pops = subst (λ (o : Option T). AtPop w capacity count slot o) first good;
        in_order = d.in_order ∙ ap (λ (l : List T). me.0.got ++ l) (sym left);
        told = told ∙ ap is_some first;
      }

  rests_here : (capacity count slot tail : ℕ) (me m' : Seated T) → AtPop me capacity count slot None → me.0.produces ≡ true
      → (tail ≡ count → m' ≡ (seen_tail me.0 tail None, []))
      → (tail ≢ count → (x : T) × (m' ≡ (seen_tail me.0 tail (Some x), (slot, Some x) ∷ [])))
      → Remains capacity me.0 m'.0.next → AtRest m' capacity count slot (not (nat_eq tail count))
  rests_here capacity count slot tail me m' p mine empty found left = dite (ℕ_discrete tail count)
      (λ e. let is = empty e in subst (λ (z : Seated T). AtRest z capacity count slot (not (nat_eq tail count))) (sym is)
      (looked capacity count slot tail me None (not (nat_eq tail count)) p mine left.0 (left.1 ∙ ap (λ (z : Seated T). z.0.next) is) (same_number tail count e)))
      (λ ne. let at = found ne in subst (λ (z : Seated T). AtRest z capacity count slot (not (nat_eq tail count))) (sym at.1)
      (looked capacity count slot tail me (Some at.0) (not (nat_eq tail count)) p mine left.0 (left.1 ∙ ap (λ (z : Seated T). z.0.next) at.1) (other_number tail count ne)))

  -- the same where the numbers are told to be as before
  pub rests : (capacity capacity' count count' slot slot' tail : ℕ) (me m' : Seated T) → AtPop me capacity count slot None → me.0.produces ≡ true
      → (tail ≡ count → m' ≡ (seen_tail me.0 tail None, []))
      → (tail ≢ count → (x : T) × (m' ≡ (seen_tail me.0 tail (Some x), (slot, Some x) ∷ [])))
      → Remains capacity me.0 m'.0.next → capacity' ≡ capacity → count' ≡ count → slot' ≡ slot → AtRest m' capacity' count' slot' (not (nat_eq tail count'))
  rests capacity capacity' count count' slot slot' tail me m' p mine empty found left a b c =
      subst (λ (n : ℕ). AtRest m' n count' slot' (not (nat_eq tail count'))) (sym a)
      (subst (λ (n : ℕ). AtRest m' capacity n slot' (not (nat_eq tail n))) (sym b)
      (subst (λ (n : ℕ). AtRest m' capacity count n (not (nat_eq tail count))) (sym c) (rests_here capacity count slot tail me m' p mine empty found left)))
