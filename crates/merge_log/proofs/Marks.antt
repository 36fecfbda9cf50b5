-- The marks of nodes, and the stack of those that are still to be looked at.
use Rattle.std.proofs.Common.{◌≡◌, ℕ, ◌+◌, ◌*◌, ◌<◌, ◌≤◌, ◌==◌, List, [], ◌∷◌, ◌++◌, length, refl, ap, sym, ◌∙◌, Bool, true, false, not, nat_eq, if◌then◌else◌, cond, arith, slice_index, ◌⊎◌, inl, inr, length-append}
use Rattle.std.specs.List.{list_any, count_by}
use Rattle.std.proofs.Math.ListN.{set}
use Rattle.std.proofs.lemmas.Grind.{common_steps, get_or-set_at}
use Rattle.std.proofs.lemmas.List.{get_or-set_other, length-set}
use Rattle.std.proofs.lemmas.List.Folds.{list_any-append}
use Rattle.std.proofs.lemmas.List.Sums.{sum_by-set}
use Rattle.std.proofs.lemmas.Bool.{or_left, or_right, or_cases, eq-eqb}
use Rattle.merge_log.specs.Walk.{visited}

-- the node bears the mark of the round
abbrev pub IsMarked : List ℕ → ℕ → ℕ → Type 0
IsMarked marks round m = slice_index marks m ≡ round

-- the node is on the stack
abbrev pub IsOn : List ℕ → ℕ → Type 0
IsOn stack m = list_any (nat_eq m) stack ≡ true

-- the steps that are left: two for each node without the mark, and one for each on the stack
abbrev pub cost : List ℕ → ℕ → List ℕ → ℕ
cost marks round stack = 2 * count_by (λ m. not (m == round)) marks + length stack

-- ---- marks

pub marked_case : (marks : List ℕ) (round a m : ℕ) → a < length marks → ((m ≡ a) × IsMarked (set marks a round) round m) ⊎ ((m ≡ a → ⊥) × (slice_index (set marks a round) m ≡ slice_index marks m))
marked_case marks round a m h = by (m == a) refl where
  by : (b : Bool) → (m == a) ≡ b → ((m ≡ a) × IsMarked (set marks a round) round m) ⊎ ((m ≡ a → ⊥) × (slice_index (set marks a round) m ≡ slice_index marks m))
  by true p = let same : m ≡ a = grind (arith, common_steps) in inl (same, get_or-set_at marks a m round 0 same h)
  by false p = let other : m ≡ a → ⊥ = λ e. absurd (grind (arith, common_steps)) in inr (other, get_or-set_other marks a m round 0 other)

pub marked_more : (marks : List ℕ) (round a m : ℕ) → a < length marks → IsMarked marks round m → IsMarked (set marks a round) round m
marked_more marks round a m h k = elim (marked_case marks round a m h) [ inl p ↦ p.1 | inr p ↦ p.1 ∙ k ]

pub marked_now : (marks : List ℕ) (round a : ℕ) → a < length marks → IsMarked (set marks a round) round a
marked_now marks round a h = get_or-set_at marks a a round 0 refl h

pub marked_back : (marks : List ℕ) (round a m : ℕ) → a < length marks → IsMarked (set marks a round) round m → IsMarked marks round m ⊎ (m ≡ a)
marked_back marks round a m h k = elim (marked_case marks round a m h) [ inl p ↦ inr p.0 | inr p ↦ inl (sym p.1 ∙ k) ]

-- ---- the stack

pub on_pushed : (stack : List ℕ) (a m : ℕ) → IsOn stack m → IsOn (stack ++ a ∷ []) m
on_pushed stack a m h = list_any-append (nat_eq m) stack (a ∷ []) ∙ or_left (list_any (nat_eq m) stack) (list_any (nat_eq m) (a ∷ [])) h

pub on_top : (stack : List ℕ) (a : ℕ) → IsOn (stack ++ a ∷ []) a
on_top stack a = list_any-append (nat_eq a) stack (a ∷ []) ∙ or_right (list_any (nat_eq a) stack) (list_any (nat_eq a) (a ∷ [])) (grind (arith, common_steps))

pub on_back : (stack : List ℕ) (a m : ℕ) → IsOn (stack ++ a ∷ []) m → IsOn stack m ⊎ (m ≡ a)
on_back stack a m h = elim (or_cases (list_any (nat_eq m) stack) (list_any (nat_eq m) (a ∷ [])) (sym (list_any-append (nat_eq m) stack (a ∷ [])) ∙ h)) [ inl p ↦ inl p | inr p ↦ inr (grind (arith, common_steps)) ]

pub on_visited : (marks : List ℕ) (round a : ℕ) (stack : List ℕ) (m : ℕ) → IsOn stack m → IsOn (visited marks round a stack) m
on_visited marks round a stack m h = by (slice_index marks a == round) where
  by : (b : Bool) → IsOn (if b then stack else stack ++ a ∷ []) m
  by true = h
  by false = on_pushed stack a m h

-- ---- the cost

pub visited_cost : (marks : List ℕ) (round a : ℕ) (stack : List ℕ) → a < length marks → cost (set marks a round) round (visited marks round a stack) ≤ cost marks round stack
visited_cost marks round a stack h =
    by (slice_index marks a == round) (sum_by-set (λ m. cond (not (m == round)) 1 0) marks a round 0 h ∙ ap (λ (b : Bool). count_by (λ m. not (m == round)) marks + cond (not b) 1 0) (eq-eqb round round refl)) where
      by : (b : Bool) → count_by (λ m. not (m == round)) (set marks a round) + cond (not b) 1 0 ≡ count_by (λ m. not (m == round)) marks + 0
          → 2 * count_by (λ m. not (m == round)) (set marks a round) + length (if b then stack else stack ++ a ∷ []) ≤ cost marks round stack
      by true p = omega (arith, p)
      by false p = rw length-append (omega (arith, p))

-- ---- visits

-- what a visit to the node a made of the marks, the round and the stack
pub record IsVisit (marks : List ℕ) (round : ℕ) (stack : List ℕ) (a : ℕ) (marks1 : List ℕ) (round1 : ℕ) (stack1 : List ℕ) : Type 0 where
  pub marked : marks1 ≡ set marks a round
  pub same_round : round1 ≡ round
  pub stacked : stack1 ≡ visited marks round a stack

module _ {marks : List ℕ} {round : ℕ} {stack : List ℕ} {a : ℕ} {marks1 : List ℕ} {round1 : ℕ} {stack1 : List ℕ} (v : IsVisit marks round stack a marks1 round1 stack1) where
  pub visit_length : length marks1 ≡ length marks
  visit_length = ap length v.marked ∙ length-set marks a round

  -- the node bears the mark of the round
  pub visit_marks : a < length marks → IsMarked marks1 round1 a
  visit_marks h = rw (v.marked, v.same_round) (marked_now marks round a h)

  -- and so does each that did
  pub visit_marked : a < length marks → (m : ℕ) → IsMarked marks round m → IsMarked marks1 round1 m
  visit_marked h m k = rw (v.marked, v.same_round) (marked_more marks round a m h k)

  pub visit_cost : a < length marks → cost marks1 round1 stack1 ≤ cost marks round stack
  visit_cost h = rw (v.stacked, v.marked, v.same_round) (visited_cost marks round a stack h)
