-- Which start locations are under the nodes of a log.
use Rattle.std.specs.Prelude.{◌≡◌, ℕ, ◌+◌, ◌<◌, ◌⊎◌, List, [], ◌∷◌, ◌++◌, length, slice_index}
use Rattle.std.specs.Int.{bit_at}
use Rattle.merge_log.specs.declared.nodes.Entry.{Entry}
use Rattle.merge_log.specs.Log.{IsNode, Covers}
use Rattle.merge_log.specs.Masks.{HasBit}

-- the start location of number k, by the nodes of the first ones, is under the node n
pub record IsUnder (log : List Entry) (leaves : List ℕ) (n k : ℕ) : Type 0 where
  pub noted : k < length leaves
  pub leaf : IsNode log (slice_index leaves k)
  pub node : IsNode log n
  pub covers : Covers log n (slice_index leaves k)

-- whatever bits the masks have, the start location is under the node: the mask of index i is that of node i + 1
abbrev pub AreUnder : List Entry → List ℕ → List ℕ → Type 0
AreUnder log leaves masks = (i k : ℕ) → HasBit masks k i → IsUnder log leaves (i + 1) k

-- the mask has no bit, or that of a node which is noted now
abbrev pub HasLeafBit : List ℕ → ℕ → List ℕ → ℕ → Type 0
HasLeafBit old node new mask =
    ((new ≡ old) × (mask ≡ 0)) ⊎ ((new ≡ old ++ node ∷ []) × ((k : ℕ) → bit_at mask k ≡ 1 → k ≡ length old))
