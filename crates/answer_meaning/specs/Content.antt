-- The content of a location in a state of the machine: a byte.
use Rattle.std.specs.Prelude.{◌≡◌, ℕ, ◌+◌, ◌-◌, ◌^◌, ◌<◌, ◌≤◌, nat_le, Bool, true, false, List, length, slice_index}
use Rattle.std.specs.List.{AllByRecursion}
use Rattle.std.specs.Int.{w32, to_le_bytes}
use Rattle.isa.specs.Machine.{State, reg}
use Rattle.flow_model.specs.declared.Loc.{Loc}
use Rattle.flow_model.specs.declared.Loc.TheVariants.{Reg, Mem}

-- lane 0 of a word is its lowest byte, lane 3 its highest; there are no others
abbrev pub lane_of : ℕ → ℕ → ℕ
lane_of v i = slice_index (to_le_bytes w32 v) i

-- the byte at an address of a window; 0 outside it
abbrev pub byte_if : Bool → ℕ → List ℕ → ℕ → ℕ
byte_if true base memory p = slice_index memory (p - base)
byte_if false base memory p = 0

abbrev pub byte_in : ℕ → List ℕ → ℕ → ℕ
byte_in base memory p = byte_if (nat_le base p) base memory p

-- the byte at a location
abbrev pub content : State → Loc → ℕ
content s (Reg r i) = lane_of (reg s r) i
content s (Mem p) = byte_in s.base s.memory p

-- two states have the same content at each of these locations
abbrev pub AgreeAt : State → State → List Loc → Type 0
AgreeAt s t ls = AllByRecursion (λ l. content s l ≡ content t l) ls
