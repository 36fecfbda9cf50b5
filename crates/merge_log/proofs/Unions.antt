-- The union of two nodes l and r in order: its entry is put into the log, or one of them absorbs the other.
use Rattle.std.proofs.Common.{◌≡◌, ℕ, ◌<◌, ◌≤◌, List, refl, ap, ap₂, sym, ◌∙◌, subst, Bool, true, false, nat_lt, if◌then◌else◌, arith, Contains, ◌⊎◌, inl, inr}
use Rattle.std.proofs.lemmas.Grind.{common_steps}
use Rattle.merge_log.specs.declared.nodes.Entry.{Entry}
use Rattle.merge_log.specs.declared.nodes.Entry.TheVariants.{Union}
use Rattle.merge_log.specs.Log.{Terms, AreSets, joined, entry_terms, terms, IsNode, AreOrdered, IsNoted, KeepsNodes, union_entry, Covers, HasOperand, HasUnion, IsUnited, AreApart, IsAbsorbed}
use Rattle.merge_log.proofs.Terms.{joined_again, joined_assoc, joined_comm, ascend-terms, terms_step, entry_before}

-- ---- a node and its operand

operand_below : (log : List Entry) (n o : ℕ) → AreOrdered 1 log → HasOperand log n o → (0 < o) × (o < n)
operand_below log n o order h = by h.operand where
  by : (o ≡ h.left) ⊎ (o ≡ h.right) → (0 < o) × (o < n)
  by (inl p) = let b = entry_before log n (Union h.left h.right) order h.entry in (omega (arith, b.0, p), omega (arith, b.1, b.2, p))
  by (inr p) = let b = entry_before log n (Union h.left h.right) order h.entry in (omega (arith, b.0, b.1, p), omega (arith, b.2, p))

joined_part : (t l r : Terms) → AreSets r → t ≡ joined l r → t ≡ joined l t
joined_part t l r h is = is ∙ sym (joined_again l r h) ∙ ap (joined l) (sym is)

-- a union has the leaves of its operand already
pub operand_covered : (log : List Entry) (n o : ℕ) → AreOrdered 1 log → HasOperand log n o → Covers log n o
operand_covered log n o order h = by h.operand where
  step : terms log n ≡ joined (terms log h.left) (terms log h.right)
  step = terms_step log n (Union h.left h.right) h.entry (entry_before log n (Union h.left h.right) order h.entry)

  by : (o ≡ h.left) ⊎ (o ≡ h.right) → terms log n ≡ joined (terms log o) (terms log n)
  by (inl p) = subst (λ (i : ℕ). terms log n ≡ joined (terms log i) (terms log n)) (sym p) (joined_part (terms log n) (terms log h.left) (terms log h.right) (ascend-terms log h.right) step)
  by (inr p) = subst (λ (i : ℕ). terms log n ≡ joined (terms log i) (terms log n)) (sym p)
      (joined_part (terms log n) (terms log h.right) (terms log h.left) (ascend-terms log h.left) (step ∙ joined_comm (terms log h.left) (terms log h.right) (ascend-terms log h.left) (ascend-terms log h.right)))

-- what it has of its operand it has of that one's too
pub covered_through : (log : List Entry) (n m o : ℕ) → Covers log n m → Covers log m o → Covers log n o
covered_through log n m o h k =
    h ∙ ap (λ (t : Terms). joined t (terms log n)) k ∙ sym (joined_assoc (terms log o) (terms log m) (terms log n) (ascend-terms log m) (ascend-terms log n))
    ∙ ap (joined (terms log o)) (sym h)

-- ---- two nodes in order

-- l and r are the nodes a and b, in one order or the other
abbrev pub AreBoth : ℕ → ℕ → ℕ → ℕ → Type 0
AreBoth a b l r = ◌≡◌ {A = ℕ × ℕ} (l, r) (a, b) ⊎ ◌≡◌ {A = ℕ × ℕ} (l, r) (b, a)

module _ (log : List Entry) (a b l r : ℕ) (order : AreOrdered 1 log) where
  -- the greater one, which has the leaves of the smaller one, has those of both
  pub covered_terms : AreBoth a b l r → Covers log r l → terms log r ≡ joined (terms log a) (terms log b)
  covered_terms (inl p) h = subst (λ (q : ℕ × ℕ). terms log r ≡ joined (terms log q.0) (terms log q.1)) p h
  covered_terms (inr p) h = subst (λ (q : ℕ × ℕ). terms log r ≡ joined (terms log q.1) (terms log q.0)) p
      (h ∙ joined_comm _ _ (ascend-terms log l) (ascend-terms log r))

  pub absorbed_terms : AreBoth a b l r → HasOperand log r l → terms log r ≡ joined (terms log a) (terms log b)
  absorbed_terms both h = covered_terms both (operand_covered log r l order h)

  -- where one of both has the other as an operand, the greater one has the smaller one
  in_order : AreBoth a b l r → l ≤ r → HasOperand log a b ⊎ HasOperand log b a → HasOperand log r l
  in_order (inl p) o (inl h) = let less = operand_below log a b order h in absurd (omega (arith, o, less.1, ap (λ (q : ℕ × ℕ). q.0) p, ap (λ (q : ℕ × ℕ). q.1) p))
  in_order (inl p) o (inr h) = subst (λ (q : ℕ × ℕ). HasOperand log q.1 q.0) (sym p) h
  in_order (inr p) o (inl h) = subst (λ (q : ℕ × ℕ). HasOperand log q.1 q.0) (sym p) h
  in_order (inr p) o (inr h) = let less = operand_below log b a order h in absurd (omega (arith, o, less.1, ap (λ (q : ℕ × ℕ). q.0) p, ap (λ (q : ℕ × ℕ). q.1) p))

  greater_stands : AreBoth a b l r → IsNode log a → IsNode log b → IsNode log r
  greater_stands (inl p) a_stands b_stands = subst (IsNode log) (sym (ap (λ (q : ℕ × ℕ). q.1) p)) b_stands
  greater_stands (inr p) a_stands b_stands = subst (IsNode log) (sym (ap (λ (q : ℕ × ℕ). q.1) p)) a_stands

  greater_left : AreBoth a b l r → l < r → b < a → r ≡ a
  greater_left (inl p) o less = absurd (omega (arith, o, less, ap (λ (q : ℕ × ℕ). q.0) p, ap (λ (q : ℕ × ℕ). q.1) p))
  greater_left (inr p) o less = ap (λ (q : ℕ × ℕ). q.1) p

  greater_right : AreBoth a b l r → l < r → a < b → r ≡ b
  greater_right (inl p) o less = ap (λ (q : ℕ × ℕ). q.1) p
  greater_right (inr p) o less = absurd (omega (arith, o, less, ap (λ (q : ℕ × ℕ). q.0) p, ap (λ (q : ℕ × ℕ). q.1) p))

  -- where the greater one has the smaller one as an operand, one of a and b has the other
  one_has : AreBoth a b l r → HasOperand log r l → HasOperand log a b ⊎ HasOperand log b a
  one_has (inl p) h = inr (subst (λ (q : ℕ × ℕ). HasOperand log q.1 q.0) p h)
  one_has (inr p) h = inl (subst (λ (q : ℕ × ℕ). HasOperand log q.1 q.0) p h)

  -- the greater one absorbs the smaller one
  pub absorbed : AreBoth a b l r → IsNode log a → IsNode log b → HasOperand log r l → IsAbsorbed log a b log r
  absorbed both a_stands b_stands h =
      let less = (operand_below log r l order h).1 in
      record {
        stands = greater_stands both a_stands b_stands;
        left_has = λ k. (greater_left both less (operand_below log a b order k).1, refl);
        right_has = λ k. (greater_right both less (operand_below log b a order k).1, refl);
        other = λ apart. absurd (elim (one_has both h) [ inl k ↦ apart.0 k | inr k ↦ apart.1 k ]);
      }

  is_one : AreBoth a b l r → (r ≡ a) ⊎ (r ≡ b)
  is_one (inl p) = inr (ap (λ (q : ℕ × ℕ). q.1) p)
  is_one (inr p) = inl (ap (λ (q : ℕ × ℕ). q.1) p)

  -- the greater one stands for both, where neither has the other as an operand
  pub absorbed_apart : AreBoth a b l r → IsNode log a → IsNode log b → AreApart log a b → IsAbsorbed log a b log r
  absorbed_apart both a_stands b_stands apart = record {
    stands = greater_stands both a_stands b_stands;
    left_has = λ k. absurd (apart.0 k);
    right_has = λ k. absurd (apart.1 k);
    other = λ k. inl (is_one both, refl);
  }

  -- neither absorbs the other
  pub apart : AreBoth a b l r → l ≤ r → (0 < l → l < r → HasOperand log r l → ⊥) → AreApart log a b
  apart both o lacks =
      let none : HasOperand log r l → ⊥ = λ h. let less = operand_below log r l order h in lacks less.0 less.1 h in
      (λ h. none (in_order both o (inl h)), λ h. none (in_order both o (inr h)))

  entry_is : AreBoth a b l r → l ≤ r → (a ≡ b → ⊥) → Union l r ≡ union_entry a b
  entry_is both o differ = by (nat_lt a b) refl both where
    by : (c : Bool) → nat_lt a b ≡ c → AreBoth a b l r → Union l r ≡ (if c then Union a b else Union b a)
    by true e (inl p) = ap (λ (q : ℕ × ℕ). Union q.0 q.1) p
    by true e (inr p) = absurd (grind (arith, common_steps, o, ap (λ (q : ℕ × ℕ). q.0) p, ap (λ (q : ℕ × ℕ). q.1) p))
    by false e (inl p) = absurd (differ (grind (arith, common_steps, o, ap (λ (q : ℕ × ℕ). q.0) p, ap (λ (q : ℕ × ℕ). q.1) p)))
    by false e (inr p) = ap (λ (q : ℕ × ℕ). Union q.0 q.1) p

  -- the union is a new entry, or its entry stands there
  pub made : (new : List Entry) (n : ℕ) → AreBoth a b l r → l ≤ r → (a ≡ b → ⊥) → (a ≡ 0 → ⊥) → (b ≡ 0 → ⊥) → IsNoted log (Union l r) new n → IsUnited log a b new n
  made new n both o differ a_made b_made k =
      record {
        stands = k.stands;
        same = λ e. absurd (differ e);
        left_empty = λ e. absurd (a_made e);
        right_empty = λ e. absurd (b_made e);
        other = λ e p q. subst (λ (u : Entry). IsNoted log u new n) (entry_is both o differ) k;
      }

  pub made_terms : (new : List Entry) → KeepsNodes log new → AreBoth a b l r → IsNode log a → IsNode log b → entry_terms (terms new) (Union l r) ≡ joined (terms log a) (terms log b)
  made_terms new k (inl p) a_stands b_stands = subst (λ (q : ℕ × ℕ). joined (terms new q.0) (terms new q.1) ≡ joined (terms log a) (terms log b)) (sym p) (ap₂ joined (k.terms a a_stands) (k.terms b b_stands))
  made_terms new k (inr p) a_stands b_stands = subst (λ (q : ℕ × ℕ). joined (terms new q.0) (terms new q.1) ≡ joined (terms log a) (terms log b)) (sym p)
      (ap₂ joined (k.terms b b_stands) (k.terms a a_stands) ∙ joined_comm _ _ (ascend-terms log b) (ascend-terms log a))

  -- a union that stands in the log, and is neither of both, is there by its entry
  pub made_there : AreBoth a b l r → l ≤ r → (a ≡ b → ⊥) → (a ≡ 0 → ⊥) → (b ≡ 0 → ⊥) → HasUnion log a b → Contains log (Union l r)
  made_there both o differ a_made b_made (inl e) = absurd (differ e)
  made_there both o differ a_made b_made (inr (inl e)) = absurd (a_made e)
  made_there both o differ a_made b_made (inr (inr (inl e))) = absurd (b_made e)
  made_there both o differ a_made b_made (inr (inr (inr c))) = subst (Contains log) (sym (entry_is both o differ)) c

-- the union of two nodes of which neither has the other as an operand
pub united_apart : (old : List Entry) (a b : ℕ) (new : List Entry) (n : ℕ) → AreApart old a b → IsUnited old a b new n → IsAbsorbed old a b new n
united_apart old a b new n apart h = record {
  stands = h.stands;
  left_has = λ k. absurd (apart.0 k);
  right_has = λ k. absurd (apart.1 k);
  other = λ k. inr h;
}
