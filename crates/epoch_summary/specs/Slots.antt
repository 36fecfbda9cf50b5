-- The slots of a table that has a value for each location.
use Rattle.std.specs.Prelude.{◌≡◌, ℕ, ◌+◌, ◌*◌, ◌/◌, ◌%◌, ◌^◌, ◌<◌, ◌≤◌, nat_eq, List, length, get_or}
use Rattle.std.specs.List.{position_or_len}
use Rattle.flow_model.specs.declared.Loc.{Loc}
use Rattle.flow_model.specs.declared.Loc.TheVariants.{Reg, Mem}

-- the number of a location: first come the bytes of memory, and then the lanes of registers
abbrev pub number_of : Loc → ℕ
number_of (Mem p) = p
number_of (Reg r i) = 2 ^ 32 + 256 * i + r

-- the numbers that say which location it is fit into their bits
abbrev pub FitsLoc : Loc → Type 0
FitsLoc (Mem p) = p < 2 ^ 32
FitsLoc (Reg r i) = (r < 256) × (i < 256)

-- the slot of a number: in the block of its key, and past the slots of all blocks where none has that key
abbrev pub slot_of : List ℕ → ℕ → ℕ
slot_of blocks n = 64 * position_or_len (nat_eq (n / 64)) blocks + n % 64

-- the block of this key is there, and begins at this slot
pub record IsBlock (blocks : List ℕ) (key first : ℕ) : Type 0 where
  pub start : first ≡ 64 * position_or_len (nat_eq key) blocks
  pub inside : first < 64 * length blocks

-- each block has its slots, and past those of the last block there is nothing
pub record AreFilled (blocks slots : List ℕ) : Type 0 where
  pub room : 64 * length blocks ≤ length slots
  pub rest : (i : ℕ) → 64 * length blocks ≤ i → get_or slots i 0 ≡ 0
