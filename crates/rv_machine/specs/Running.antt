-- Plain steps in a row, and one who is told of them.
use Rattle.std.specs.Prelude.{◌≡◌, ℕ, suc, ◌+◌, ◌-◌, ◌*◌, ◌/◌, ◌%◌, ◌^◌, ◌<◌, ◌≤◌, List}
use Rattle.isa.specs.declared.Instr.{Instr}
use Rattle.isa.specs.Encodings.{Fits}
use Rattle.isa.specs.Machine.{State, Retired, execute, effect_of, place_of, wrap}
use Rattle.rv_decode.specs.Registers.{registers_of}
use Rattle.rv_decode.specs.Accesses.{IsNoAccess}
use Rattle.rv_machine.specs.declared.running.Made.{Made}
use Rattle.rv_machine.specs.declared.running.Made.TheVariants as made
use Rattle.rv_machine.specs.Effects.{IsWritten}
use Rattle.rv_machine.specs.Hart.{running, IsPlainStep}

-- what it is to be told of a step: one as it was, the instruction, its effective address, and one as it is
abbrev pub Tells : Type 0 → Type 1
Tells W = W → Instr → ℕ → W → Type 0

-- whether a further step is wanted, where it begins at this pc
abbrev pub Wants : Type 0 → Type 1
Wants W = W → ℕ → Type 0

-- being told of a step of an instruction with these registers, which is neither a load nor a store, changes nothing
abbrev pub PassesBy : {W : Type 0} → Tells W → ℕ → W → Type 0
PassesBy told registers w = (instr : Instr) → Fits instr → registers_of instr ≡ registers → IsNoAccess instr → told w instr 0 w

-- so many plain steps lead from one state to another, and one who wanted each, and was told of it or passed it by, from what
-- it was to what it is
pub data IsFollowed {W : Type 0} (told : Tells W) (wants : Wants W) (from : State) (was : W) : ℕ → State → W → Type 0 where
  Begun : IsFollowed told wants from was 0 from was
  Then : (n : ℕ) (s : State) (w : W) (instr : Instr) (after : State) (next : W) → IsFollowed told wants from was n s w
      → wants w s.pc → IsPlainStep s instr (place_of s instr) (running after) → told w instr (place_of s instr) next
      → IsFollowed told wants from was (suc n) after next

-- an instruction retires, and one was told of it
pub record IsMade {W : Type 0} (told : Tells W) (s : State) (was : W) (instr : Instr) (after : State) (next : W) : Type 0 where
  pub retires : execute s (effect_of s instr) ≡ Retired after
  pub is_told : told was instr (place_of s instr) next

-- the pc after a step
abbrev pub made_pc : ℕ → Made → ℕ
made_pc pc made.On = wrap (pc + 4)
made_pc pc (made.To target) = target
made_pc pc (made.Stored place) = wrap (pc + 4)

-- a step led to a word, and memory is as it was, or a store changed it
abbrev pub IsChanged : List ℕ → ℕ → Made → List ℕ → Type 0
IsChanged before base made.On after = after ≡ before
IsChanged before base (made.To target) after = (after ≡ before) × (target % 4 ≡ 0) × (target < 2 ^ 32)
IsChanged before base (made.Stored place) after = (base ≤ place) × (place < 2 ^ 32) × IsWritten before (place - base) after

-- the number of the window's word at the pc after a step
abbrev pub number_after : ℕ → ℕ → Made → ℕ
number_after base number made.On = number + 1
number_after base number (made.To target) = (target + (2 ^ 32 - base)) % 2 ^ 32 / 4
number_after base number (made.Stored place) = number + 1

-- the pc of a word by its number in a window
abbrev pub pc_of : ℕ → ℕ → ℕ
pc_of base number = (base + number * 4) % 2 ^ 32
