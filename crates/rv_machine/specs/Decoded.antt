-- What is known of the words of a window.
use Rattle.std.specs.Prelude.{◌≡◌, ◌⊎◌, ℕ, ◌+◌, ◌*◌, ◌<◌, ◌≤◌, List, Some, length, take, drop, slice_index_or}
use Rattle.isa.specs.declared.Instr.{Instr}
use Rattle.isa.specs.declared.Instr.TheVariants.{Ecall}
use Rattle.isa.specs.Words.{instruction_of}
use Rattle.isa.specs.Encodings.{Fits}
use Rattle.isa.specs.Machine.{little_endian}
use Rattle.rv_decode.specs.Registers.{registers_of}
use Rattle.rv_machine.specs.Effects.{SetsNoX0}
use Rattle.rv_machine.specs.declared.decoded.Slot.{Slot}
use Rattle.rv_machine.specs.declared.decoded.TheConstants.{UNKNOWN}

-- the word at an offset in memory stands for an instruction
pub record IsThere (memory : List ℕ) (offset : ℕ) (instr : Instr) : Type 0 where
  pub inside : offset + 4 ≤ length memory
  pub is : instruction_of (little_endian (take 4 (drop offset memory))) ≡ Some instr

-- a slot's instruction fits, and sets no x0 unless it is a jump, and the slot's registers are the instruction's
pub record HasBits (slot : Slot) : Type 0 where
  pub fits : Fits slot.instr
  pub sets : SetsNoX0 slot.instr
  pub bits : registers_of slot.instr ≡ slot.registers

-- and the word at its offset stands for the instruction. ECALL says nothing: it stands for one that isn't known, too
pub record IsKnown (memory : List ℕ) (offset : ℕ) (slot : Slot) : Type 0 where
  pub bits : HasBits slot
  pub is : (slot.instr ≡ Ecall) ⊎ IsThere memory offset slot.instr

-- the slot of a word, by the word's number in the window
abbrev pub slot_of : List Slot → ℕ → Slot
slot_of slots n = slice_index_or slots n UNKNOWN

-- each is right, and the last knows nothing
pub record AreKnown (slots : List Slot) (memory : List ℕ) : Type 0 where
  pub each : (n : ℕ) → n < length slots → IsKnown memory (4 * n) (slot_of slots n)
  pub last : (n : ℕ) → n + 1 ≡ length slots → slot_of slots n ≡ UNKNOWN

-- what was right stays right
abbrev pub KnowsNoMore : List Slot → List Slot → Type 0
KnowsNoMore before after = (memory : List ℕ) → AreKnown before memory → AreKnown after memory

-- no slot has an instruction, so all are right whatever memory is
abbrev pub KnowsNothing : List Slot → Type 0
KnowsNothing slots = (memory : List ℕ) → AreKnown slots memory

-- the slots from one number up to, and without, another know nothing; the others are as they were, and may know nothing
pub record AreForgotten (old new : List Slot) (first past : ℕ) : Type 0 where
  pub same_length : length new ≡ length old
  pub each : (k : ℕ) → k < length old → (slot_of new k ≡ UNKNOWN) ⊎ ((slot_of new k ≡ slot_of old k) × ((k < first) ⊎ (past ≤ k)))
