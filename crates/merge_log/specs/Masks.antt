-- A walk from many roots at once: the masks that say under which of them a node is, and what is still to be found.
use Rattle.std.specs.Prelude.{◌≡◌, ℕ, zero, suc, ◌<◌, ◌≤◌, ◌*◌, ◌/◌, ◌==◌, ◌⊎◌, if◌then◌else◌, Bool, true, false, List, [], ◌∷◌, ◌++◌, length, slice_index, slice_get, Some}
use Rattle.std.specs.Int.{bit_at}
use Rattle.merge_log.specs.declared.nodes.Entry.{Entry}
use Rattle.merge_log.specs.declared.reader.Leaf.{Leaf}
use Rattle.merge_log.specs.declared.finding.FoundLeaves.{FoundLeaves}
use Rattle.merge_log.specs.declared.finding.Leaves.{Leaves}
use Rattle.merge_log.specs.declared.finding.Leaves.TheVariants.{Run, Start}
use Rattle.source_runs.specs.Runs.{bytes_of}
use Rattle.merge_log.specs.Log.{Terms, no_terms, terms}
use Rattle.merge_log.specs.Walk.{has_leaf, terms_of}

-- ---- the masks of nodes

-- each node has a block, and where a block isn't marked none of its nodes has a mask
pub record AreMarked (masks : List ℕ) (blocks : List Bool) : Type 0 where
  pub room : length masks ≤ 64 * length blocks
  pub clear : (m : ℕ) → slice_get blocks (m / 64) ≡ Some false → slice_index masks m ≡ 0

-- no node from `past` on has a mask
abbrev pub IsClearFrom : List ℕ → ℕ → Type 0
IsClearFrom masks past = (m : ℕ) → past ≤ m → slice_index masks m ≡ 0

-- no node below `first` has a mask
abbrev pub IsClearBelow : List ℕ → ℕ → Type 0
IsClearBelow masks first = (m : ℕ) → m < first → slice_index masks m ≡ 0

-- the mask of a node has the bit of a root
abbrev pub HasBit : List ℕ → ℕ → ℕ → Type 0
HasBit masks r m = bit_at (slice_index masks m) r ≡ 1

-- ---- what was found

-- the terms of the root r: none beyond the last
abbrev pub found_at : List FoundLeaves → ℕ → Terms
found_at [] r = no_terms
found_at (f ∷ fs) zero = terms_of f
found_at (f ∷ fs) (suc r) = found_at fs r

-- with more leaves after those that are there
abbrev pub and_leaves : Leaves → Terms → Terms
and_leaves (Run s) t = record { sources = t.sources ++ bytes_of s; starts = t.starts }
and_leaves (Start l) t = record { sources = t.sources; starts = t.starts ++ l ∷ [] }

-- with more leaves, where the bit is set
abbrev pub with_leaves : ℕ → Leaves → Terms → Terms
with_leaves bit u t = if bit == 1 then and_leaves u t else t

-- each root of the mask has the leaves too, and the others are as they were
abbrev pub GivesLeaves : ℕ → Leaves → List FoundLeaves → List FoundLeaves → Type 0
GivesLeaves mask u old new = (r : ℕ) → r < length old → found_at new r ≡ with_leaves (bit_at mask r) u (found_at old r)

-- each root has the leaves that it had
abbrev pub HaveLeavesOf : List FoundLeaves → List FoundLeaves → Type 0
HaveLeavesOf old new = (r : ℕ) (q : Leaf) → has_leaf q (found_at new r) ≡ has_leaf q (found_at old r)

-- the leaves under a root are those that were found, and those under the nodes that are left
pub record IsCover (log : List Entry) (root : ℕ) (is_left : ℕ → Type 0) (found : Terms) : Type 0 where
  pub under : (m : ℕ) → is_left m → (q : Leaf) → has_leaf q (terms log m) ≡ true → has_leaf q (terms log root) ≡ true
  pub within : (q : Leaf) → has_leaf q found ≡ true → has_leaf q (terms log root) ≡ true
  pub covered : (q : Leaf) → has_leaf q (terms log root) ≡ true → (has_leaf q found ≡ true) ⊎ ((m : ℕ) × is_left m × (has_leaf q (terms log m) ≡ true))

-- the node is left beside those of the masks, where its mask has the bit of the root
abbrev pub IsLeftToo : List ℕ → ℕ → ℕ → ℕ → ℕ → Type 0
IsLeftToo masks node mask r m = HasBit masks r m ⊎ ((m ≡ node) × (bit_at mask r ≡ 1))

-- each root that was covered with that node is covered by what is left and found now
abbrev pub KeepCovers : List Entry → ℕ → ℕ → List ℕ → List FoundLeaves → List ℕ → List FoundLeaves → Type 0
KeepCovers log node mask masks found masks1 found1 =
    (r root : ℕ) → r < length found
    → IsCover log root (IsLeftToo masks node mask r) (found_at found r) → IsCover log root (HasBit masks1 r) (found_at found1 r)

-- of each root its leaves are found
abbrev pub AreFound : List Entry → List ℕ → List FoundLeaves → Type 0
AreFound log roots found =
    (r : ℕ) (q : Leaf) → r < length roots → has_leaf q (found_at found r) ≡ has_leaf q (terms log (slice_index roots r))
