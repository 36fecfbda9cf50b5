-- Registers and memory as packets tell them (GDB Remote Serial Protocol, GDB manual, appendix E "Remote Protocol",
-- "Packets", `g`, `p` and `m`): two digits for each byte, and of a register the lowest byte first.
use Rattle.std.specs.Prelude.{ℕ, ◌==◌, nat_le, min, if◌then◌else◌, List, [], ◌∷◌, codes}
use Rattle.std.specs.List.{flat_map, range_with_len}
use Rattle.std.specs.Int.{w32, to_le_bytes}
use Rattle.hex.specs.Hex.{encode_lower}
use Rattle.isa.specs.Machine.{State, reg, bytes_at}

-- the answer where what is asked isn't there, or can't be done
abbrev pub error : List ℕ
error = codes "E01"

-- ---- registers, by their numbers in the description: x0 to x31, and the pc, which is 32

abbrev pub register : State → ℕ → ℕ
register s n = if n == 32 then s.pc else reg s n

abbrev pub register_bytes : State → ℕ → List ℕ
register_bytes s n = to_le_bytes w32 (register s n)

-- all of them
abbrev pub registers_text : State → List ℕ
registers_text s = encode_lower (flat_map (register_bytes s) (range_with_len 0 33))

-- one
abbrev pub register_text : State → ℕ → List ℕ
register_text s n = if nat_le n 32 then encode_lower (register_bytes s n) else error

-- ---- memory

-- of so many bytes from an address on those that stand in the window, and at most 8000: none where the first doesn't
abbrev pub bytes_from : State → ℕ → ℕ → List ℕ
bytes_from s place length = if nat_le s.base place then bytes_at s place (min length 8000) else []

abbrev pub bytes_text : List ℕ → List ℕ
bytes_text [] = error
bytes_text (byte ∷ bytes) = encode_lower (byte ∷ bytes)

abbrev pub memory_text : State → ℕ → ℕ → List ℕ
memory_text s place length = bytes_text (bytes_from s place length)
