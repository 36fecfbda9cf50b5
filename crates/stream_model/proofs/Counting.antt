-- What is asked is answered in its order, so a number of complete answers tells which terms are resolvable. Crates above
-- cite these lemmas.
use Rattle.std.proofs.Common.{◌≡◌, ℕ, zero, suc, ◌+◌, ◌≤◌, nat_le, max, List, [], ◌∷◌, ◌++◌, length, refl, ap, ap₂, sym, ◌∙◌, Bool, true, false, ◌||◌, ◌&&◌, cond, arith}
use Rattle.std.specs.List.{list_all}
use Rattle.std.specs.Ordering.{eq_by_cmp}
use Rattle.std.proofs.lemmas.Bool.{and_parts}
use Rattle.flow_model.specs.declared.Loc.{Loc}
use Rattle.flow_model.specs.declared.SourceByte.{SourceByte}
use Rattle.lists.specs.Sets.{has, is_within}
use Rattle.lists.proofs.Tests.{true-false}
use Rattle.flow_model.specs.Orders.{loc_cmp}
use Rattle.stream_model.specs.Streams.{is_ended, answers_in, is_answered, places_up_to, places_needed}
use Rattle.stream_model.specs.StreamLaws.{ResolvableByCount, PlacesStay}

-- the number is at least 1 where the location is asked
some_place : (asked : List Loc) (l : Loc) → has loc_cmp l asked ≡ true → 1 ≤ places_up_to asked l
some_place [] l e = true-false (sym e)
some_place (m ∷ ms) l e = by (eq_by_cmp loc_cmp l m) where
  by : (b : Bool) → 1 ≤ cond b 1 (1 + places_up_to ms l)
  by true = omega arith
  by false = omega arith

le_later : (m n : ℕ) → nat_le (1 + m) (suc n) ≡ nat_le m n
le_later m n = grind arith

-- one asked location is answered where there are as many answers as it has places
answered_by_count : (asked : List Loc) (answers : List (List SourceByte)) (l : Loc) → has loc_cmp l asked ≡ true
    → is_answered asked answers l ≡ nat_le (places_up_to asked l) (length answers)
answered_by_count [] answers l e = true-false (sym e)
answered_by_count (m ∷ ms) [] l e = none (places_up_to (m ∷ ms) l) (some_place (m ∷ ms) l e) where
  none : (n : ℕ) → 1 ≤ n → false ≡ nat_le n 0
  none zero h = absurd (omega (arith, h))
  none (suc n) h = grind arith
answered_by_count (m ∷ ms) (x ∷ xs) l e = by (answered_by_count ms xs l) (eq_by_cmp loc_cmp l m) e where
  by : (has loc_cmp l ms ≡ true → is_answered ms xs l ≡ nat_le (places_up_to ms l) (length xs))
      → (b : Bool) → (b || has loc_cmp l ms) ≡ true
      → (b || is_answered ms xs l) ≡ nat_le (cond b 1 (1 + places_up_to ms l)) (suc (length xs))
  by ih true h = grind arith
  by ih false h = ih h ∙ sym (le_later (places_up_to ms l) (length xs))

le_max : (a b n : ℕ) → nat_le (max a b) n ≡ (nat_le a n && nat_le b n)
le_max a b n = grind arith

-- all are answered where there are as many answers as the last of them needs
pub all_by_count : (asked : List Loc) (answers : List (List SourceByte)) (ls : List Loc) → is_within loc_cmp ls asked ≡ true
    → list_all (is_answered asked answers) ls ≡ nat_le (places_needed asked ls) (length answers)
all_by_count asked answers [] e = grind arith
all_by_count asked answers (l ∷ ls) e =
    let parts = and_parts (has loc_cmp l asked) (is_within loc_cmp ls asked) e in
    ap₂ (λ (a b : Bool). a && b) (answered_by_count asked answers l parts.0) (all_by_count asked answers ls parts.1)
    ∙ sym (le_max (places_up_to asked l) (places_needed asked ls) (length answers))

pub resolvable_by_count : ResolvableByCount
resolvable_by_count asked got t e = ap (λ (b : Bool). is_ended got || b) (all_by_count asked (answers_in [] got) t.starts e)

-- a place stays when more is asked
pub place_stays : (asked more : List Loc) (l : Loc) → has loc_cmp l asked ≡ true → places_up_to (asked ++ more) l ≡ places_up_to asked l
place_stays [] more l e = true-false (sym e)
place_stays (m ∷ ms) more l e = by (place_stays ms more l) (eq_by_cmp loc_cmp l m) e where
  by : (has loc_cmp l ms ≡ true → places_up_to (ms ++ more) l ≡ places_up_to ms l)
      → (b : Bool) → (b || has loc_cmp l ms) ≡ true
      → cond b 1 (1 + places_up_to (ms ++ more) l) ≡ cond b 1 (1 + places_up_to ms l)
  by ih true h = refl
  by ih false h = ap (λ (n : ℕ). 1 + n) (ih h)

pub places_stay : PlacesStay
places_stay asked more [] e = refl
places_stay asked more (l ∷ ls) e =
    let parts = and_parts (has loc_cmp l asked) (is_within loc_cmp ls asked) e in
    ap₂ max (place_stays asked more l parts.0) (places_stay asked more ls parts.1)
