-- Marks that are set, and locations that are asked too.
use Rattle.std.proofs.Common.{◌≡◌, ℕ, ◌<◌, List, [], ◌∷◌, length, get_or, refl, sym, ◌∙◌, Bool, true, false, ◌||◌, ◌⊎◌, inl, inr, arith, eqb, eqb-true, ltb, ltb-true, ltb-false, replicate, set, length-set}
use Rattle.std.specs.Ordering.{eq_by_cmp}
use Rattle.std.proofs.lemmas.Bool.{both_ways, eqb-false, or_cases, or_left, or_right}
use Rattle.std.proofs.lemmas.Grind.{get_or-set_at}
use Rattle.std.proofs.lemmas.List.{get_or-replicate, get_or-set_other, get_or_past, length-replicate}
use Rattle.lists.specs.Sets.{has}
use Rattle.flow_model.specs.declared.Loc.{Loc}
use Rattle.flow_model.specs.Orders.{loc_cmp}
use Rattle.epoch_model.specs.Crossing.{added}
use Rattle.epoch_model.proofs.Adding.{any_added_all}
use Rattle.summary_join.specs.Labels.{IsMarked}
use Rattle.summary_join.specs.Needs.{KeepsNeeds}
use Rattle.summary_join.proofs.Places.{has_itself}

-- ---- marks

pub set_marked : (marks : List Bool) (a : ℕ) → a < length marks → IsMarked (set marks a true) a
set_marked marks a h = get_or-set_at marks a a true false refl h

pub set_more : (marks : List Bool) (a m : ℕ) → a < length marks → IsMarked marks m → IsMarked (set marks a true) m
set_more marks a m h k = by (eqb m a) refl where
  by : (b : Bool) → eqb m a ≡ b → IsMarked (set marks a true) m
  by true e = get_or-set_at marks a m true false (eqb-true m a e) h
  by false e = get_or-set_other marks a m true false (eqb-false m a e) ∙ k

pub set_back : (marks : List Bool) (a m : ℕ) → IsMarked (set marks a true) m → IsMarked marks m ⊎ (m ≡ a)
set_back marks a m k = by (eqb m a) refl where
  by : (b : Bool) → eqb m a ≡ b → IsMarked marks m ⊎ (m ≡ a)
  by true e = inr (eqb-true m a e)
  by false e = inl (sym (get_or-set_other marks a m true false (eqb-false m a e)) ∙ k)

pub none_marked : (count n : ℕ) → IsMarked (replicate count false) n → ⊥
none_marked count n m = by (ltb n count) refl where
  by : (b : Bool) → ltb n count ≡ b → ⊥
  by true e = both_ways (get_or (replicate count false) n false) (get_or-replicate count n false false (ltb-true n count e)) m
  by false e =
      let long = length-replicate count false in
      both_ways (get_or (replicate count false) n false) (get_or_past (replicate count false) n false (omega (arith, long, ltb-false n count e))) m

-- ---- locations

has-added : (asked : List Loc) (l m : Loc) → has loc_cmp m (added asked l) ≡ (has loc_cmp m asked || has loc_cmp m (l ∷ []))
has-added asked l m = any_added_all (eq_by_cmp loc_cmp m) asked (l ∷ [])

pub added_more : (asked : List Loc) (l m : Loc) → has loc_cmp m asked ≡ true → has loc_cmp m (added asked l) ≡ true
added_more asked l m h = has-added asked l m ∙ or_left (has loc_cmp m asked) (has loc_cmp m (l ∷ [])) h

pub added_has : (asked : List Loc) (l : Loc) → has loc_cmp l (added asked l) ≡ true
added_has asked l = has-added asked l l ∙ or_right (has loc_cmp l asked) (has loc_cmp l (l ∷ [])) (has_itself l)

pub added_back : (asked : List Loc) (l m : Loc) → has loc_cmp m (added asked l) ≡ true → (has loc_cmp m asked ≡ true) ⊎ (has loc_cmp m (l ∷ []) ≡ true)
added_back asked l m h = or_cases (has loc_cmp m asked) (has loc_cmp m (l ∷ [])) (sym (has-added asked l m) ∙ h)

-- ---- what is kept

pub keeps_all : (marks : List Bool) (asked : List Loc) → KeepsNeeds marks asked marks asked
keeps_all marks asked = record { room = refl; marked = λ n h. h; asked = λ l h. h }

pub needs_then : (m0 : List Bool) (a0 : List Loc) (m1 : List Bool) (a1 : List Loc) (m2 : List Bool) (a2 : List Loc) → KeepsNeeds m0 a0 m1 a1 → KeepsNeeds m1 a1 m2 a2 → KeepsNeeds m0 a0 m2 a2
needs_then m0 a0 m1 a1 m2 a2 h k = record { room = k.room ∙ h.room; marked = λ n x. k.marked n (h.marked n x); asked = λ l x. k.asked l (h.asked l x) }

pub mark_keeps : (marks : List Bool) (asked : List Loc) (a : ℕ) → a < length marks → KeepsNeeds marks asked (set marks a true) asked
mark_keeps marks asked a h = record { room = length-set marks a true; marked = λ n k. set_more marks a n h k; asked = λ l k. k }

pub ask_keeps : (marks : List Bool) (asked : List Loc) (l : Loc) → KeepsNeeds marks asked marks (added asked l)
ask_keeps marks asked l = record { room = refl; marked = λ n k. k; asked = λ m k. added_more asked l m k }
