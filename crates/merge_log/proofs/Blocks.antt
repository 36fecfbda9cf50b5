-- Nodes without a mask, one by one and by blocks.
use Rattle.std.proofs.Common.{◌≡◌, ◌≢◌, ℕ, ◌*◌, ◌<◌, ◌≤◌, ◌/◌, ◌%◌, List, length, min, ap, sym, ◌∙◌, subst, Bool, true, false, arith, slice_get, inl, inr}
use Rattle.std.specs.Prelude.{Some}
use Rattle.std.proofs.Math.ListN.{set}
use Rattle.std.proofs.lemmas.List.{get_or-set_other, get_or-set_same, length-set}
use Rattle.std.proofs.lemmas.Option.{slice_get_within, slice_get-get_or, get_or_from_slice_get}
use Rattle.lists.proofs.Tests.{true-false}
use Rattle.merge_log.specs.Masks.{AreMarked, IsClearBelow, IsClearFrom}
use Rattle.merge_log.proofs.Roots.{number_case}

-- the block of a node
pub block_in : (masks : List ℕ) (blocks : List Bool) (n : ℕ) → AreMarked masks blocks → n < length masks → n / 64 < length blocks
block_in masks blocks n marked h = let room : length masks ≤ 64 * length blocks = marked.room in omega arith

-- the other blocks are as they were
other_block : (blocks : List Bool) (b j : ℕ) (v : Bool) → j ≢ b → slice_get (set blocks b v) j ≡ Some false → slice_get blocks j ≡ Some false
other_block blocks b j v other h =
    let within : j < length blocks = subst (λ (n : ℕ). j < n) (length-set blocks b v) (slice_get_within (set blocks b v) j false h) in
    slice_get-get_or blocks j false within ∙ ap Some (sym (get_or-set_other blocks b j v false other) ∙ get_or_from_slice_get (set blocks b v) j false false h)

-- a block in which no node is left is marked no more
pub block_left : (masks : List ℕ) (blocks : List Bool) (past : ℕ) → AreMarked masks blocks → past % 64 ≡ 0 → IsClearFrom masks past → AreMarked masks (set blocks (past / 64) false)
block_left masks blocks past marked whole clear = record {
  room = rw length-set marked.room;
  clear = λ m h. elim (number_case (m / 64) (past / 64)) [
    | inl e ↦ clear m (omega (arith, e, whole))
    | inr e ↦ marked.clear m (other_block blocks (past / 64) (m / 64) false e h)
  ];
}

-- a block in which a node is left is marked
pub block_marked : (masks : List ℕ) (blocks : List Bool) (node mask : ℕ) → AreMarked masks blocks → node < length masks → AreMarked (set masks node mask) (set blocks (node / 64) true)
block_marked masks blocks node mask marked node_in = record {
  room = rw (length-set, length-set) marked.room;
  clear = λ m h. elim (number_case (m / 64) (node / 64)) [
    | inl e ↦ true-false (sym (get_or-set_same blocks (node / 64) true false (block_in masks blocks node marked node_in))
        ∙ get_or_from_slice_get (set blocks (node / 64) true) (node / 64) false false (subst (λ (b : ℕ). slice_get (set blocks (node / 64) true) b ≡ Some false) e h))
    | inr e ↦ get_or-set_other masks node m mask 0 (λ d. e (ap (λ (i : ℕ). i / 64) d)) ∙ marked.clear m (other_block blocks (node / 64) (m / 64) true e h)
  ];
}

-- no node below the first one has a mask, with one more
pub below_marked : (masks : List ℕ) (first node mask least : ℕ) → IsClearBelow masks first → least ≡ min first node → IsClearBelow (set masks node mask) least
below_marked masks first node mask least below is m h = get_or-set_other masks node m mask 0 (λ e. absurd (omega (arith, e, is, h))) ∙ below m (omega (arith, is, h))
