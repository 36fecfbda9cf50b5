-- Start locations that are noted as under nodes.
use Rattle.std.proofs.Common.{◌≡◌, ℕ, zero, suc, ◌+◌, ◌-◌, ◌*◌, ◌%◌, ◌^◌, ◌<◌, ◌≤◌, List, [], ◌∷◌, ◌++◌, length, refl, ap, ap₂, sym, ◌∙◌, subst, arith, slice_index, ◌⊎◌, inl, inr, length-append}
use Rattle.std.specs.Prelude.{Some}
use Rattle.std.specs.Int.{bit_at, w64}
use Rattle.std.specs.Int.RustNames.{bit_or}
use Rattle.std.proofs.Math.Seq.{get_or-append_seam}
use Rattle.std.proofs.lemmas.Bool.{cases_lt}
use Rattle.std.proofs.lemmas.List.{get_or_append_left, get_or_past}
use Rattle.std.proofs.lemmas.Option.{slice_get_within}
use Rattle.std.proofs.lemmas.Nat.Bits.{bit_at_or, bit_at-zero, bit_at_set_other}
use Rattle.merge_log.specs.declared.nodes.Entry.{Entry}
use Rattle.merge_log.specs.declared.nodes.Entry.TheVariants.{Union}
use Rattle.merge_log.specs.Log.{IsNode, AreOrdered, KeepsNodes, Covers, HasOperand, entry_at, joined, terms}
use Rattle.merge_log.specs.Under.{AreUnder, IsUnder}
use Rattle.merge_log.proofs.Covering.{either_bit}
use Rattle.merge_log.proofs.Roots.{number_case}
use Rattle.merge_log.proofs.Terms.{ascend-terms, joined_itself, entry_before}
use Rattle.merge_log.proofs.Unions.{operand_covered, covered_through}

-- ---- bits

no_bit_of_0 : {A : Type 0} (k : ℕ) → bit_at 0 k ≡ 1 → A
no_bit_of_0 k b = absurd (let none : ◌≡◌ {A = ℕ} 0 1 = sym (bit_at-zero k) ∙ b in omega arith)

-- a mask of one bit has no other
pub one_bit : (b k : ℕ) → b < 64 → bit_at (1 * 2 ^ b % 2 ^ 64) k ≡ 1 → k ≡ b
one_bit b k few h = elim (number_case k b) [
  | inl e ↦ e
  | inr e ↦ absurd (
      let other = bit_at_set_other w64 0 b few k e in
      let both = bit_at_or 0 (1 * 2 ^ b % 2 ^ 64) k in
      let nothing = bit_at-zero k in
      omega (arith, h, other, both, nothing))
]

-- ---- what was noted

-- it is true of a log that keeps the nodes
pub kept_under : (old new : List Entry) (leaves masks : List ℕ) → KeepsNodes old new → AreUnder old leaves masks → AreUnder new leaves masks
kept_under old new leaves masks keeps h i k bit =
    let u = h i k bit in
    record {
      noted = u.noted;
      leaf = keeps.nodes (slice_index leaves k) u.leaf;
      node = keeps.nodes (i + 1) u.node;
      covers = keeps.terms (i + 1) u.node ∙ u.covers ∙ ap₂ joined (sym (keeps.terms (slice_index leaves k) u.leaf)) (sym (keeps.terms (i + 1) u.node));
    }

-- and where one more start location is noted
more_leaves : (log : List Entry) (leaves : List ℕ) (x n k : ℕ) → IsUnder log leaves n k → IsUnder log (leaves ++ x ∷ []) n k
more_leaves log leaves x n k u =
    let at = get_or_append_left leaves (x ∷ []) 0 k u.noted in
    record {
      noted = omega (arith, u.noted, length-append leaves (x ∷ []));
      leaf = subst (IsNode log) (sym at) u.leaf;
      node = u.node;
      covers = subst (Covers log n) (sym at) u.covers;
    }

-- a start location is under its own node
leaf_itself : (log : List Entry) (leaves : List ℕ) (node : ℕ) → IsNode log node → IsUnder log (leaves ++ node ∷ []) node (length leaves)
leaf_itself log leaves node stands =
    let at = get_or-append_seam leaves node [] 0 in
    record {
      noted = omega (arith, length-append leaves (node ∷ []));
      leaf = subst (IsNode log) (sym at) stands;
      node = stands;
      covers = subst (Covers log node) (sym at) (sym (joined_itself (terms log node) (ascend-terms log node)));
    }

pub entry_stands : (log : List Entry) (n : ℕ) (e : Entry) → entry_at log n ≡ Some e → IsNode log n
entry_stands log zero e at = cc
entry_stands log (suc n) e at = omega (arith, slice_get_within log n e at)

-- what is under an operand is under the union
through_operand : (log : List Entry) (leaves masks : List ℕ) (node o k : ℕ) → AreOrdered 1 log → AreUnder log leaves masks → HasOperand log node o → IsNode log node → 0 < o
    → bit_at (slice_index masks (o - 1)) k ≡ 1 → IsUnder log leaves node k
through_operand log leaves masks node o k order under has stands above bit =
    let same : (o - 1) + 1 ≡ o = omega (arith, above) in
    let u = under (o - 1) k bit in
    record {
      noted = u.noted;
      leaf = u.leaf;
      node = stands;
      covers = covered_through log node o (slice_index leaves k) (operand_covered log node o order has) (subst (λ (n : ℕ). Covers log n (slice_index leaves k)) same u.covers);
    }

pub union_under : (log : List Entry) (leaves masks : List ℕ) (node l r : ℕ) → AreOrdered 1 log → AreUnder log leaves masks → entry_at log node ≡ Some (Union l r)
    → (k : ℕ) → bit_at (bit_or (slice_index masks (l - 1)) (slice_index masks (r - 1))) k ≡ 1 → IsUnder log leaves node k
union_under log leaves masks node l r order under at k bit =
    let before = entry_before log node (Union l r) order at in
    let stands = entry_stands log node (Union l r) at in
    elim (either_bit (slice_index masks (l - 1)) (slice_index masks (r - 1)) k bit) [
      | inl b ↦ through_operand log leaves masks node l k order under (record { left = l; right = r; entry = at; operand = inl refl }) stands before.0 b
      | inr b ↦ through_operand log leaves masks node r k order under (record { left = l; right = r; entry = at; operand = inr refl }) stands (omega (arith, before.0, before.1)) b
    ]

-- the mask of a new node
pub mask_pushed : (log : List Entry) (leaves masks : List ℕ) (mask : ℕ) → AreUnder log leaves masks → ((k : ℕ) → bit_at mask k ≡ 1 → IsUnder log leaves (length masks + 1) k)
    → AreUnder log leaves (masks ++ mask ∷ [])
mask_pushed log leaves masks mask under own i k bit = elim (cases_lt i (length masks)) [
  | inl h ↦ under i k (ap (λ (m : ℕ). bit_at m k) (sym (get_or_append_left masks (mask ∷ []) 0 i h)) ∙ bit)
  | inr g ↦ elim (number_case i (length masks)) [
    | inl e ↦ subst (λ (j : ℕ). IsUnder log leaves (j + 1) k) (sym e)
        (own k (ap (λ (m : ℕ). bit_at m k) (sym (ap (slice_index (masks ++ mask ∷ [])) e ∙ get_or-append_seam masks mask [] 0)) ∙ bit))
    | inr e ↦
        let past : length (masks ++ mask ∷ []) ≤ i = omega (arith, length-append masks (mask ∷ []), g, e) in
        no_bit_of_0 k (ap (λ (m : ℕ). bit_at m k) (sym (get_or_past (masks ++ mask ∷ []) i 0 past)) ∙ bit)
  ]
]

-- a start location is noted, or none, and the mask of its node
pub leaf_noted : (log : List Entry) (old leaves masks : List ℕ) (node mask : ℕ) → AreUnder log old masks → IsNode log node → node ≡ length masks + 1
    → ((leaves ≡ old) × (mask ≡ 0)) ⊎ ((leaves ≡ old ++ node ∷ []) × ((k : ℕ) → bit_at mask k ≡ 1 → k ≡ length old)) → AreUnder log leaves masks × AreUnder log leaves (masks ++ mask ∷ [])
leaf_noted log old leaves masks node mask under stands is (inl h) =
    let still = subst (λ (ls : List ℕ). AreUnder log ls masks) (sym h.0) under in
    (still, mask_pushed log leaves masks mask still (λ k b. no_bit_of_0 k (ap (λ (m : ℕ). bit_at m k) (sym h.1) ∙ b)))
leaf_noted log old leaves masks node mask under stands is (inr h) =
    let still : AreUnder log leaves masks = subst (λ (ls : List ℕ). AreUnder log ls masks) (sym h.0) (λ i k b. more_leaves log old node (i + 1) k (under i k b)) in
    let own : (k : ℕ) → bit_at mask k ≡ 1 → IsUnder log leaves (length masks + 1) k =
    λ k b. subst (λ (n : ℕ). IsUnder log leaves n k) is (subst (λ (ls : List ℕ). IsUnder log ls node k) (sym h.0)
    (subst (IsUnder log (old ++ node ∷ []) node) (sym (h.1 k b)) (leaf_itself log old node stands))) in
    (still, mask_pushed log leaves masks mask still own)

pub nothing_noted : (log : List Entry) (leaves masks : List ℕ) (mask : ℕ) → mask ≡ 0 → AreUnder log leaves masks → AreUnder log leaves (masks ++ mask ∷ [])
nothing_noted log leaves masks mask is under = mask_pushed log leaves masks mask under (λ k b. no_bit_of_0 k (ap (λ (m : ℕ). bit_at m k) (sym is) ∙ b))
