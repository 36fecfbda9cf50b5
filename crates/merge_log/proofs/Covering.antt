-- A walk by masks: what was found of a root, and what is left under nodes that have its bit.
use Rattle.std.proofs.Common.{◌≡◌, ◌≢◌, ℕ, ◌+◌, ◌<◌, ◌≤◌, List, length, refl, ap, sym, ◌∙◌, subst, true, false, ◌||◌, arith, slice_index, max, ◌*◌, ◌^◌, ◌%◌, ◌⊎◌, inl, inr}
use Rattle.std.specs.Prelude.{Some}
use Rattle.std.specs.Int.{bit_at, w64}
use Rattle.std.specs.Int.RustNames.{bit_or}
use Rattle.std.proofs.Math.ListN.{set}
use Rattle.std.proofs.lemmas.Grind.{get_or-set_at}
use Rattle.std.proofs.lemmas.List.{get_or-set_other, length-set}
use Rattle.std.proofs.lemmas.Nat.Bits.{bit_at_or, bit_at-zero, bit_at-lt, bit_at_set_same, bit_at_set_other}
use Rattle.std.proofs.lemmas.Bool.{or_left, or_right, or_cases}
use Rattle.lists.proofs.Tests.{true-false, same-tests}
use Rattle.merge_log.specs.declared.nodes.Entry.{Entry}
use Rattle.merge_log.specs.declared.nodes.Entry.TheVariants.{Union}
use Rattle.merge_log.specs.declared.reader.Leaf.{Leaf}
use Rattle.merge_log.specs.declared.reader.Leaf.TheVariants as leaf
use Rattle.merge_log.specs.Log.{Terms, no_terms, terms, HasOperandsBefore, entry_at}
use Rattle.merge_log.specs.Walk.{has_leaf}
use Rattle.merge_log.specs.Masks.{HasBit, IsClearFrom, IsCover, IsLeftToo, found_at, with_leaves}
use Rattle.merge_log.proofs.Leaves.{has-joined, leaves_terms}
use Rattle.merge_log.specs.declared.finding.FoundLeaves.{FoundLeaves}
use Rattle.merge_log.specs.declared.finding.Leaves.{Leaves}
use Rattle.merge_log.proofs.Walking.{leaves_added}
use Rattle.merge_log.proofs.Roots.{number_case, leaves_kept}
use Rattle.merge_log.proofs.Terms.{terms_step, nothing_under_0}

-- ---- the bits of masks

-- a node's mask is taken
pub taken_back : (masks : List ℕ) (n r m : ℕ) → n < length masks → HasBit (set masks n 0) r m → HasBit masks r m
taken_back masks n r m h k = elim (number_case m n) [
  | inl e ↦ absurd (let none : ◌≡◌ {A = ℕ} 0 1 = sym (ap (λ (i : ℕ). bit_at i r) (get_or-set_at masks n m 0 0 e h) ∙ bit_at-zero r) ∙ k in omega arith)
  | inr e ↦ ap (λ (i : ℕ). bit_at i r) (sym (get_or-set_other masks n m 0 0 e)) ∙ k
]

pub taken_on : (masks : List ℕ) (n r m : ℕ) → HasBit masks r m → (m ≡ n) ⊎ HasBit (set masks n 0) r m
taken_on masks n r m k = elim (number_case m n) [
  | inl e ↦ inl e
  | inr e ↦ inr (ap (λ (i : ℕ). bit_at i r) (get_or-set_other masks n m 0 0 e) ∙ k)
]

-- the roots of a mask are added to that of a node
abbrev pub added : List ℕ → ℕ → ℕ → List ℕ
added masks n mask = set masks n (bit_or (slice_index masks n) mask)

added_bit : (masks : List ℕ) (n mask r m : ℕ) → m ≡ n → n < length masks → bit_at (slice_index (added masks n mask) m) r ≡ bit_at (bit_or (slice_index masks n) mask) r
added_bit masks n mask r m e h = ap (λ (i : ℕ). bit_at i r) (get_or-set_at masks n m (bit_or (slice_index masks n) mask) 0 e h)

pub either_bit : (a b k : ℕ) → bit_at (bit_or a b) k ≡ 1 → (bit_at a k ≡ 1) ⊎ (bit_at b k ≡ 1)
either_bit a b k h = elim (number_case (bit_at a k) 1) [
  | inl e ↦ inl e
  | inr e ↦ inr (let most = sym (bit_at_or a b k) ∙ h in let small = bit_at-lt a k in omega (arith, most, small, e))
]

pub added_back : (masks : List ℕ) (n mask r m : ℕ) → n < length masks → HasBit (added masks n mask) r m → HasBit masks r m ⊎ ((m ≡ n) × (bit_at mask r ≡ 1))
added_back masks n mask r m h k = elim (number_case m n) [
  | inl e ↦
      elim (either_bit (slice_index masks n) mask r (sym (added_bit masks n mask r m e h) ∙ k)) [
        | inl u ↦ inl (ap (λ (i : ℕ). bit_at (slice_index masks i) r) e ∙ u)
        | inr u ↦ inr (e, u)
      ]
  | inr e ↦ inl (ap (λ (i : ℕ). bit_at i r) (sym (get_or-set_other masks n m (bit_or (slice_index masks n) mask) 0 e)) ∙ k)
]

pub added_on : (masks : List ℕ) (n mask r m : ℕ) → n < length masks → HasBit masks r m → HasBit (added masks n mask) r m
added_on masks n mask r m h k = elim (number_case m n) [
  | inl e ↦ added_bit masks n mask r m e h ∙ bit_at_or (slice_index masks n) mask r ∙ more (ap (λ (i : ℕ). bit_at (slice_index masks i) r) (sym e) ∙ k)
  | inr e ↦ ap (λ (i : ℕ). bit_at i r) (get_or-set_other masks n m (bit_or (slice_index masks n) mask) 0 e) ∙ k
] where
  more : bit_at (slice_index masks n) r ≡ 1 → max (bit_at (slice_index masks n) r) (bit_at mask r) ≡ 1
  more p = let small = bit_at-lt mask r in omega (arith, p, small)

pub added_now : (masks : List ℕ) (n mask r : ℕ) → n < length masks → bit_at mask r ≡ 1 → HasBit (added masks n mask) r n
added_now masks n mask r h k =
    let small = bit_at-lt (slice_index masks n) r in
    let most : max (bit_at (slice_index masks n) r) (bit_at mask r) ≡ 1 = omega (arith, k, small) in
    added_bit masks n mask r n refl h ∙ bit_at_or (slice_index masks n) mask r ∙ most

-- the first roots have their bits in the masks of their nodes, and no other bit is set
pub record AreRoots (past : ℕ) (roots masks : List ℕ) (count : ℕ) : Type 0 where
  pub above : IsClearFrom masks past
  pub only : (r m : ℕ) → HasBit masks r m → (r < count) × (m ≡ slice_index roots r)
  pub all : (r : ℕ) → r < count → HasBit masks r (slice_index roots r)

pub root_added : (past : ℕ) (roots masks : List ℕ) (root n : ℕ) → n ≡ slice_index roots root → root < 64 → n < length masks → AreRoots past roots masks root → AreRoots (max (n + 1) past) roots (added masks n (1 * 2 ^ root % 2 ^ 64)) (root + 1)
root_added past roots masks root n is few n_in a = record {
  above = λ m h. get_or-set_other masks n m (bit_or (slice_index masks n) (1 * 2 ^ root % 2 ^ 64)) 0 (λ e. absurd (omega (arith, e, h))) ∙ a.above m (omega (arith, h));
  only = λ r m h. elim (number_case r root) [
    | inl e ↦ elim (number_case m n) [
      | inl d ↦ (omega (arith, e), d ∙ is ∙ ap (slice_index roots) (sym e))
      | inr d ↦ later r m (a.only r m (ap (λ (i : ℕ). bit_at i r) (sym (get_or-set_other masks n m (bit_or (slice_index masks n) (1 * 2 ^ root % 2 ^ 64)) 0 d)) ∙ h))
    ]
    | inr e ↦ later r m (a.only r m (back r m e h))
  ];
  all = λ r h. elim (number_case r root) [
    | inl e ↦ subst (λ (i : ℕ). HasBit (added masks n (1 * 2 ^ root % 2 ^ 64)) i (slice_index roots i)) (sym e)
        (subst (HasBit (added masks n (1 * 2 ^ root % 2 ^ 64)) root) is (added_bit masks n (1 * 2 ^ root % 2 ^ 64) root n refl n_in ∙ bit_at_set_same w64 (slice_index masks n) root few))
    | inr e ↦ added_on masks n (1 * 2 ^ root % 2 ^ 64) r (slice_index roots r) n_in (a.all r (omega (arith, h, e)))
  ];
} where
  later : (r m : ℕ) → (r < root) × (m ≡ slice_index roots r) → (r < root + 1) × (m ≡ slice_index roots r)
  later r m p = (omega (arith, p.0), p.1)

  back : (r m : ℕ) → r ≢ root → HasBit (added masks n (1 * 2 ^ root % 2 ^ 64)) r m → HasBit masks r m
  back r m e h = elim (number_case m n) [
    | inl d ↦ ap (λ (i : ℕ). bit_at (slice_index masks i) r) d ∙ sym (bit_at_set_other w64 (slice_index masks n) root few r e) ∙ sym (added_bit masks n (1 * 2 ^ root % 2 ^ 64) r m d n_in) ∙ h
    | inr d ↦ ap (λ (i : ℕ). bit_at i r) (sym (get_or-set_other masks n m (bit_or (slice_index masks n) (1 * 2 ^ root % 2 ^ 64)) 0 d)) ∙ h
  ]

-- ---- one root

-- the leaf is found, or under a node that is left
abbrev Reaches : List Entry → (ℕ → Type 0) → Terms → Leaf → Type 0
Reaches log is_left found q = (has_leaf q found ≡ true) ⊎ ((m : ℕ) × is_left m × (has_leaf q (terms log m) ≡ true))

-- other nodes are left, and others leaves found, by which the same are reached
cover_changed : (log : List Entry) (root : ℕ) (old new : ℕ → Type 0) (found more : Terms) → ((q : Leaf) → Reaches log new more q → Reaches log old found q)
    → ((q : Leaf) → Reaches log old found q → Reaches log new more q) → IsCover log root old found → IsCover log root new more
cover_changed log root old new found more back on c = record {
  under = λ m h q t. reached q (back q (inr (m, h, t)));
  within = λ q t. reached q (back q (inl t));
  covered = λ q t. on q (c.covered q t);
} where
  reached : (q : Leaf) → Reaches log old found q → has_leaf q (terms log root) ≡ true
  reached q (inl t) = c.within q t
  reached q (inr p) = c.under p.0 p.1 q p.2

-- nothing is left
pub cover_ends : (log : List Entry) (root : ℕ) (is_left : ℕ → Type 0) (found : Terms) → ((m : ℕ) → is_left m → ⊥) → IsCover log root is_left found → (q : Leaf) → has_leaf q found ≡ has_leaf q (terms log root)
cover_ends log root is_left found none c q =
    same-tests (has_leaf q found) (has_leaf q (terms log root)) (c.within q) (λ t. elim (c.covered q t) [ inl p ↦ p | inr p ↦ absurd (none p.0 p.1) ])

-- ---- one node

-- where no node from this one on has a mask, it has no bit
pub no_bit : (masks : List ℕ) (past r m : ℕ) → past ≤ m → IsClearFrom masks past → HasBit masks r m → ⊥
no_bit masks past r m h c k = let none : ◌≡◌ {A = ℕ} 0 1 = sym (ap (λ (i : ℕ). bit_at i r) (c m h) ∙ bit_at-zero r) ∙ k in omega arith

no_leaf : (q : Leaf) → has_leaf q no_terms ≡ false
no_leaf (leaf.Source b) = refl
no_leaf (leaf.Start l) = refl

has_at : (log : List Entry) (q : Leaf) (m n : ℕ) → m ≡ n → has_leaf q (terms log m) ≡ true → has_leaf q (terms log n) ≡ true
has_at log q m n e t = ap (λ (i : ℕ). has_leaf q (terms log i)) (sym e) ∙ t

-- leaves are given to a root whose bit is set
pub leaf_cover : (log : List Entry) (root : ℕ) (masks : List ℕ) (node mask r : ℕ) (found more : Terms) (given : Leaves) → terms log node ≡ leaves_terms given
    → more ≡ with_leaves (bit_at mask r) given found → IsCover log root (IsLeftToo masks node mask r) found → IsCover log root (HasBit masks r) more
leaf_cover log root masks node mask r found more given under is =
    cover_changed log root (IsLeftToo masks node mask r) (HasBit masks r) found more (back (number_case (bit_at mask r) 1))
    (on (number_case (bit_at mask r) 1)) where
      grown : bit_at mask r ≡ 1 → (q : Leaf) → has_leaf q more ≡ (has_leaf q found || has_leaf q (terms log node))
      grown e = leaves_added log node given found more under (is ∙ ap (λ (i : ℕ). with_leaves i given found) e)

      kept : bit_at mask r ≢ 1 → more ≡ found
      kept e = is ∙ leaves_kept (bit_at mask r) given found e

      back : (bit_at mask r ≡ 1) ⊎ (bit_at mask r ≢ 1) → (q : Leaf) → Reaches log (HasBit masks r) more q → Reaches log (IsLeftToo masks node mask r) found q
      back either q (inr p) = inr (p.0, inl p.1, p.2)
      back (inl e) q (inl t) =
          elim (or_cases (has_leaf q found) (has_leaf q (terms log node)) (sym (grown e q) ∙ t)) [ inl u ↦ inl u | inr u ↦ inr (node, inr (refl, e), u) ]
      back (inr e) q (inl t) = inl (sym (ap (has_leaf q) (kept e)) ∙ t)

      on : (bit_at mask r ≡ 1) ⊎ (bit_at mask r ≢ 1) → (q : Leaf) → Reaches log (IsLeftToo masks node mask r) found q → Reaches log (HasBit masks r) more q
      on (inl e) q (inl t) = inl (grown e q ∙ or_left (has_leaf q found) (has_leaf q (terms log node)) t)
      on (inr e) q (inl t) = inl (ap (has_leaf q) (kept e) ∙ t)
      on (inl e) q (inr p) = elim p.1 [
        | inl h ↦ inr (p.0, h, p.2)
        | inr h ↦ inl (grown e q ∙ or_right (has_leaf q found) (has_leaf q (terms log node)) (has_at log q p.0 node h.0 p.2))
      ]
      on (inr e) q (inr p) = elim p.1 [ inl h ↦ inr (p.0, h, p.2) | inr h ↦ absurd (e h.1) ]

-- a node is left for its operands
pub union_cover : (log : List Entry) (root : ℕ) (masks : List ℕ) (node mask r : ℕ) (found : Terms) (a b : ℕ) → entry_at log node ≡ Some (Union a b)
    → HasOperandsBefore node (Union a b) → node < length masks
    → IsCover log root (IsLeftToo masks node mask r) found → IsCover log root (HasBit (added (added masks a mask) b mask) r) found
union_cover log root masks node mask r found a b at before room =
    cover_changed log root (IsLeftToo masks node mask r) (HasBit (added (added masks a mask) b mask) r) found found back on where
      a_in : a < length masks
      a_in = omega (arith, before, room)

      b_in : b < length (added masks a mask)
      b_in = rw length-set (omega (arith, before, room))

      either : (q : Leaf) → has_leaf q (terms log node) ≡ (has_leaf q (terms log a) || has_leaf q (terms log b))
      either q = ap (has_leaf q) (terms_step log node (Union a b) at before) ∙ has-joined q (terms log a) (terms log b)

      back : (q : Leaf) → Reaches log (HasBit (added (added masks a mask) b mask) r) found q → Reaches log (IsLeftToo masks node mask r) found q
      back q (inl t) = inl t
      back q (inr p) = elim (added_back (added masks a mask) b mask r p.0 b_in p.1) [
        | inl h ↦ elim (added_back masks a mask r p.0 a_in h) [
          | inl u ↦ inr (p.0, inl u, p.2)
          | inr u ↦ inr (node, inr (refl, u.1), either q ∙ or_left (has_leaf q (terms log a)) (has_leaf q (terms log b)) (has_at log q p.0 a u.0 p.2))
        ]
        | inr u ↦ inr (node, inr (refl, u.1), either q ∙ or_right (has_leaf q (terms log a)) (has_leaf q (terms log b)) (has_at log q p.0 b u.0 p.2))
      ]

      on : (q : Leaf) → Reaches log (IsLeftToo masks node mask r) found q → Reaches log (HasBit (added (added masks a mask) b mask) r) found q
      on q (inl t) = inl t
      on q (inr p) = elim p.1 [
        | inl h ↦ inr (p.0, added_on (added masks a mask) b mask r p.0 b_in (added_on masks a mask r p.0 a_in h), p.2)
        | inr h ↦ elim (or_cases (has_leaf q (terms log a)) (has_leaf q (terms log b)) (sym (either q) ∙ has_at log q p.0 node h.0 p.2)) [
          | inl u ↦ inr (a, added_on (added masks a mask) b mask r a b_in (added_now masks a mask r a_in h.1), u)
          | inr u ↦ inr (b, added_now (added masks a mask) b mask r b_in h.1, u)
        ]
      ]

-- the mask of a node is taken
pub taken_cover : (log : List Entry) (root : ℕ) (masks : List ℕ) (node r : ℕ) (found : Terms) → node < length masks → IsCover log root (HasBit masks r) found
    → IsCover log root (IsLeftToo (set masks node 0) node (slice_index masks node) r) found
taken_cover log root masks node r found h c = record {
  under = λ m k. elim k [ inl p ↦ c.under m (taken_back masks node r m h p) | inr p ↦ c.under m (ap (λ (i : ℕ). bit_at (slice_index masks i) r) p.0 ∙ p.1) ];
  within = c.within;
  covered = λ q t. elim (c.covered q t) [
    | inl p ↦ inl p
    | inr p ↦ inr (p.0, elim (taken_on masks node r p.0 p.1) [ inl e ↦ inr (e, ap (λ (i : ℕ). bit_at (slice_index masks i) r) (sym e) ∙ p.1) | inr k ↦ inl k ], p.2)
  ];
}

-- the empty node has no leaf
pub nothing_cover : (log : List Entry) (root : ℕ) (masks : List ℕ) (node mask r : ℕ) (found : Terms) → node ≡ 0
    → IsCover log root (IsLeftToo masks node mask r) found → IsCover log root (HasBit masks r) found
nothing_cover log root masks node mask r found none = cover_changed log root (IsLeftToo masks node mask r) (HasBit masks r) found found back on where
  back : (q : Leaf) → Reaches log (HasBit masks r) found q → Reaches log (IsLeftToo masks node mask r) found q
  back q (inl t) = inl t
  back q (inr p) = inr (p.0, inl p.1, p.2)

  on : (q : Leaf) → Reaches log (IsLeftToo masks node mask r) found q → Reaches log (HasBit masks r) found q
  on q (inl t) = inl t
  on q (inr p) = elim p.1 [
    | inl h ↦ inr (p.0, h, p.2)
    | inr h ↦ true-false (sym (has_at log q p.0 0 (h.0 ∙ none) p.2) ∙ ap (has_leaf q) (nothing_under_0 log) ∙ no_leaf q)
  ]

-- at first the root itself is left
pub first_cover : (log : List Entry) (root : ℕ) (masks : List ℕ) (r : ℕ) (found : Terms) → found ≡ no_terms → ((m : ℕ) → HasBit masks r m → m ≡ root) → HasBit masks r root → IsCover log root (HasBit masks r) found
first_cover log root masks r found is only bit = record {
  under = λ m h q t. ap (λ (i : ℕ). has_leaf q (terms log i)) (sym (only m h)) ∙ t;
  within = λ q t. true-false (sym t ∙ ap (has_leaf q) is ∙ no_leaf q);
  covered = λ q t. inr (root, bit, t);
}

-- ---- the mask of the next node is taken

module _ (old masks taken : List ℕ) (node : ℕ) (kept : masks ≡ old) (is : taken ≡ set masks node 0) (inside : node < length masks) where
  pub taken_room : length taken ≡ length old
  taken_room = ap length is ∙ length-set masks node 0 ∙ ap length kept

  -- none is left from it on
  pub clear_taken : IsClearFrom masks (node + 1) → IsClearFrom taken node
  clear_taken c m k = ap (λ (ms : List ℕ). slice_index ms m) is ∙ elim (number_case m node) [
    | inl e ↦ get_or-set_at masks node m 0 0 e inside
    | inr e ↦ get_or-set_other masks node m 0 0 e ∙ c m (omega (arith, k, e))
  ]

  pub all_taken : (log : List Entry) (roots : List ℕ) (found : List FoundLeaves) (mask : ℕ) → mask ≡ slice_index masks node
      → ((r : ℕ) → r < length roots → IsCover log (slice_index roots r) (HasBit old r) (found_at found r))
      → (r : ℕ) → r < length roots → IsCover log (slice_index roots r) (IsLeftToo taken node mask r) (found_at found r)
  all_taken log roots found mask at covers r h =
      rw (is, at) (taken_cover log (slice_index roots r) masks node r (found_at found r) inside (rw kept (covers r h)))
