-- What doing an instruction comes to, by parts of a state.
use Rattle.std.specs.Prelude.{◌≡◌, ℕ, ◌+◌, ◌-◌, ◌<◌, ◌≤◌, length, Bool, true, false, List, [], Option, Some, None}
use Rattle.isa.specs.declared.Instr.{Instr}
use Rattle.isa.specs.declared.Effect.{Effect}
use Rattle.isa.specs.declared.Effect.TheVariants.{SetRegister, Jump, Branch, Load, Store, MoveOn, EnvironmentCall, Breakpoint}
use Rattle.isa.specs.Machine.{State, Outcome, Retired, Called, Trapped, execute, effect_of, place_of, call_of, wrap, is_aligned, with_register, in_window, bytes_at, little_endian, extended, low_bytes, overwritten}
use Rattle.rv_decode.specs.declared.accesses.Load.{Load as LoadMade}
use Rattle.rv_decode.specs.declared.accesses.Store.{Store as StoreMade}
use Rattle.rv_decode.specs.Accesses.{load_of, store_of, IsNoAccess, FitsLoad, FitsStore}
use Rattle.rv_machine.specs.declared.state.Next.{Next}
use Rattle.rv_machine.specs.declared.state.Next.TheVariants as next

-- the state of these parts
abbrev pub state_of : ℕ → List ℕ → ℕ → List ℕ → State
state_of pc registers base memory = record { pc = pc; registers = registers; base = base; memory = memory }

-- a state with this window
abbrev pub window_of : ℕ → List ℕ → State
window_of base memory = record { pc = 0; registers = []; base = base; memory = memory }

-- the pc after an instruction. A call and a trap leave it
abbrev pub pc_after : ℕ → Next → ℕ
pc_after pc next.On = wrap (pc + 4)
pc_after pc (next.To target) = target
pc_after pc (next.Loaded place load) = wrap (pc + 4)
pc_after pc (next.Stored place store) = wrap (pc + 4)
pc_after pc next.Called = pc
pc_after pc (next.Trapped kind) = pc

-- a few bytes were written from an offset on
pub record IsWritten (before : List ℕ) (offset : ℕ) (after : List ℕ) : Type 0 where
  pub bytes : List ℕ
  pub few : length bytes ≤ 4
  pub inside : offset + length bytes ≤ length before
  pub is : after ≡ overwritten before offset bytes

-- an instruction's outcome, with an effective address, is this one, with the states before and after it
pub record IsRetired (before : State) (outcome : Outcome) (address place : ℕ) (after : State) : Type 0 where
  pub retires : outcome ≡ Retired after
  pub reaches : address ≡ place

abbrev pub IsOutcome : State → Instr → Outcome → ℕ → Next → State → Type 0
IsOutcome before instr outcome address next.On after = IsRetired before outcome address 0 after × (after.memory ≡ before.memory) × IsNoAccess instr
IsOutcome before instr outcome address (next.To target) after = IsRetired before outcome address 0 after × (after.memory ≡ before.memory) × (is_aligned target ≡ true) × IsNoAccess instr
IsOutcome before instr outcome address (next.Loaded place load) after = IsRetired before outcome address place after × (after.memory ≡ before.memory) × (load_of instr ≡ Some load) × FitsLoad load
IsOutcome before instr outcome address (next.Stored place store) after = IsRetired before outcome address place after × (before.base ≤ place) × IsWritten before.memory (place - before.base) after.memory × (store_of instr ≡ Some store) × FitsStore store
IsOutcome before instr outcome address next.Called after = (outcome ≡ Called (call_of before)) × (after ≡ before)
IsOutcome before instr outcome address (next.Trapped kind) after = (outcome ≡ Trapped kind) × (after ≡ before)

-- what doing an instruction came to
abbrev pub Executes : State → Instr → Next → State → Type 0
Executes before instr to after = IsOutcome before instr (execute before (effect_of before instr)) (place_of before instr) to after

-- ---- the same by parts

-- where a jump or a taken branch leads
abbrev pub landing : Bool → ℕ → Next
landing true target = next.To target
landing false target = next.Trapped 0

abbrev pub branching : Bool → ℕ → Next
branching true target = landing (is_aligned target) target
branching false target = next.On

-- where a load and a store lead: they trap outside the window
abbrev pub loading : Bool → Option LoadMade → ℕ → Next
loading true (Some load) address = next.Loaded address load
loading true None address = next.Trapped 5
loading false load address = next.Trapped 5

abbrev pub storing : Bool → Option StoreMade → ℕ → Next
storing true (Some store) address = next.Stored address store
storing true None address = next.Trapped 7
storing false store address = next.Trapped 7

abbrev pub next_of : State → Instr → Effect → Next
next_of s instr (SetRegister d v) = next.On
next_of s instr (Jump d target) = landing (is_aligned target) target
next_of s instr (Branch taken target) = branching taken target
next_of s instr (Load d address n is_signed) = loading (in_window s address n) (load_of instr) address
next_of s instr (Store address n v) = storing (in_window s address n) (store_of instr) address
next_of s instr MoveOn = next.On
next_of s instr EnvironmentCall = next.Called
next_of s instr Breakpoint = next.Trapped 3

-- the registers, one of them set unless the instruction traps
abbrev pub set_if : Bool → List ℕ → ℕ → ℕ → List ℕ
set_if true registers d v = with_register registers d v
set_if false registers d v = registers

-- what a load brings
abbrev pub loaded_value : State → ℕ → ℕ → Bool → ℕ
loaded_value s address n is_signed = extended is_signed n (little_endian (bytes_at s address n))

abbrev pub registers_after : State → Effect → List ℕ
registers_after s (SetRegister d v) = with_register s.registers d v
registers_after s (Jump d target) = set_if (is_aligned target) s.registers d (wrap (s.pc + 4))
registers_after s (Branch taken target) = s.registers
registers_after s (Load d address n is_signed) = set_if (in_window s address n) s.registers d (loaded_value s address n is_signed)
registers_after s (Store address n v) = s.registers
registers_after s MoveOn = s.registers
registers_after s EnvironmentCall = s.registers
registers_after s Breakpoint = s.registers

-- the bytes of the window, some of them written unless the instruction traps
abbrev pub written_if : Bool → List ℕ → ℕ → List ℕ → List ℕ
written_if true memory i bytes = overwritten memory i bytes
written_if false memory i bytes = memory

abbrev pub memory_after : State → Effect → List ℕ
memory_after s (SetRegister d v) = s.memory
memory_after s (Jump d target) = s.memory
memory_after s (Branch taken target) = s.memory
memory_after s (Load d address n is_signed) = s.memory
memory_after s (Store address n v) = written_if (in_window s address n) s.memory (address - s.base) (low_bytes n v)
memory_after s MoveOn = s.memory
memory_after s EnvironmentCall = s.memory
memory_after s Breakpoint = s.memory

-- ---- the registers that are set

-- the register that an effect sets may be set. A jump may set any
abbrev pub MaySet : (ℕ → Type 0) → Effect → Type 0
MaySet may (SetRegister d v) = may d
MaySet may (Load d address n is_signed) = may d
MaySet may other = Unit {0}

-- an instruction sets another register than x0, or none, or is a jump
abbrev pub SetsNoX0 : Instr → Type 0
SetsNoX0 instr = (s : State) → MaySet (λ d. 0 < d) (effect_of s instr)
