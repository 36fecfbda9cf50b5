-- What is seen of a machine, and what its calls promise.
use Rattle.std.specs.Prelude.{◌≡◌, ℕ, ◌<◌, Bool, true, false, length, IsTrue}
use Rattle.isa.specs.declared.Instr.{Instr}
use Rattle.isa.specs.declared.Call.{Call}
use Rattle.isa.specs.declared.CallKind.TheVariants as kind
use Rattle.isa.specs.Encodings.{Fits}
use Rattle.isa.specs.Machine.{State, Retired, Called, Trapped, next, Fetched, fetch, place_of, reg, in_window, call_of}
use Rattle.isa.specs.Calls.{after_read, after_write, after_clock, after_other, after_exit}
use Rattle.rv_machine.specs.declared.Stepped.{Stepped}
use Rattle.rv_machine.specs.declared.Stepped.TheVariants as stepped
use Rattle.rv_machine.specs.declared.Reply.{Reply}
use Rattle.rv_machine.specs.declared.Reply.TheVariants.{Read, Write, Clock, Other, Exit}

-- a state, and whether the call in it waits for its answer. That call is `call_of state`
pub record Hart : Type 0 where
  pub state : State
  pub waits : Bool

abbrev pub running : State → Hart
running s = record { state = s; waits = false }

abbrev pub waiting : State → Hart
waiting s = record { state = s; waits = true }

-- a step that retires: its instruction, which has a word, and the effective address
pub record IsPlainStep (s : State) (instr : Instr) (place : ℕ) (after : Hart) : Type 0 where
  pub fetched : fetch s ≡ Fetched instr
  pub fits : Fits instr
  pub address : place ≡ place_of s instr
  pub retired : next s ≡ Retired after.state
  pub goes_on : after.waits ≡ false

-- a call leaves the state as it is, and waits. It is the one that the registers say
pub record IsCallStep (s : State) (call : Call) (after : Hart) : Type 0 where
  pub called : next s ≡ Called call
  pub by_registers : call ≡ call_of s
  pub waits : after ≡ waiting s

-- a trap leaves the state as it is. Its pc is that of the instruction
pub record IsTrapStep (s : State) (kind pc : ℕ) (after : Hart) : Type 0 where
  pub trapped : next s ≡ Trapped kind
  pub at_pc : pc ≡ s.pc
  pub unchanged : after ≡ running s

abbrev pub IsStep : State → Stepped → Hart → Type 0
IsStep s (stepped.Plain instr place) after = IsPlainStep s instr place after
IsStep s (stepped.Called call) after = IsCallStep s call after
IsStep s (stepped.Trapped kind pc) after = IsTrapStep s kind pc after

-- a reply to the call that waits: of its own kind, and a read's bytes all have room in the window from x11 on
abbrev pub IsAnswer : State → Reply → Type 0
IsAnswer s (Read result bytes) = ((call_of s).kind ≡ kind.Read) × (0 < length bytes.now → IsTrue (in_window s (reg s 11) (length bytes.now)))
IsAnswer s (Write result) = (call_of s).kind ≡ kind.Write
IsAnswer s (Clock value) = (call_of s).kind ≡ kind.Clock
IsAnswer s Other = (call_of s).kind ≡ kind.Other
IsAnswer s Exit = (call_of s).kind ≡ kind.Exit

-- the state after the call that waits
abbrev pub answered : State → Reply → State
answered s (Read result bytes) = after_read s (reg s 11) result bytes.now
answered s (Write result) = after_write s result
answered s (Clock value) = after_clock s value
answered s Other = after_other s
answered s Exit = after_exit s
