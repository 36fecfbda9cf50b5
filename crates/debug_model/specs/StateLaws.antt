-- What the registers and the memory that are told are of.
use Rattle.std.specs.Prelude.{◌≡◌, ℕ, ◌+◌, ◌-◌, ◌*◌, ◌^◌, ◌<◌, ◌≤◌, min, if◌then◌else◌, List, [], ◌∷◌, length, take, drop, slice_index, Option, Some, None, Ok}
use Rattle.std.specs.Int.{w32, from_le_bytes}
use Rattle.hex.specs.Hex.{decode_of}
use Rattle.isa.specs.Machine.{State, in_window}
use Rattle.log_model.specs.Logs.{Log}
use Rattle.replay_model.specs.Fits.{Fits}
use Rattle.replay_model.specs.Run.{start, moment_after}
use Rattle.replayer.specs.Jobs.{Job}
use Rattle.remote_packets.specs.declared.packet.Packet.TheVariants.{Registers, Register, Memory}
use Rattle.remote_packets.specs.Packets.{packet_of}
use Rattle.debug_model.specs.Sessions.{SessionAt}
use Rattle.debug_model.specs.States.{register, registers_text, register_text, bytes_from, memory_text}
use Rattle.debug_model.specs.Answers.{answer}

-- ---- of which state

-- the state of a run of this program under this log after so many steps: of the same run that a query is of
abbrev pub run_state : (program : List ℕ) (log : Log) → Fits program log → ℕ → State
run_state program log fits t = (moment_after t (start fits.start log)).state

abbrev pub job_of : (program : List ℕ) (log : Log) → Fits program log → Job
job_of program log fits = record { start = fits.start; log = log }

-- registers and memory are told of it
pub record TellsRun (program : List ℕ) (log : Log) (fits : Fits program log) (s : SessionAt) (bytes : List ℕ)
    : Type 0 where
  pub all : packet_of bytes ≡ Registers
      → answer (job_of program log fits) s bytes ≡ registers_text (run_state program log fits s.time) ∷ []
  pub one : (n : ℕ) → packet_of bytes ≡ Register n
      → answer (job_of program log fits) s bytes ≡ register_text (run_state program log fits s.time) n ∷ []
  pub memory : (place asked : ℕ) → packet_of bytes ≡ Memory place asked
      → answer (job_of program log fits) s bytes ≡ memory_text (run_state program log fits s.time) place asked ∷ []

abbrev pub StateIsOfRun : Type 0
StateIsOfRun = (program : List ℕ) (log : Log) (fits : Fits program log) (s : SessionAt) (bytes : List ℕ)
    → TellsRun program log fits s bytes

-- ---- as what

-- among all registers each is told as alone: x0 to x31 in order, and the pc behind them
abbrev pub EachIsAmongAll : Type 0
EachIsAmongAll = (s : State) (n : ℕ) → n ≤ 32 → take 8 (drop (n * 8) (registers_text s)) ≡ register_text s n

-- a register's text is read as its value, the lowest byte first
pub record IsTextOf (text : List ℕ) (value : ℕ) : Type 0 where
  pub bytes : List ℕ
  pub read : decode_of text ≡ Ok bytes
  pub is : from_le_bytes w32 bytes ≡ value

abbrev pub RegistersAreRead : Type 0
RegistersAreRead = (s : State) (n : ℕ) → n ≤ 32 → register s n < 2 ^ 32 → IsTextOf (register_text s n) (register s n)

-- ---- memory

-- the byte at an address; none outside of the window
abbrev pub byte_at : State → ℕ → Option ℕ
byte_at s place = if in_window s place 1 then Some (slice_index s.memory (place - s.base)) else None

-- how many bytes are told: from an address in the window on, as many as are asked for, but no more than 8000, nor than
-- there are in the window
abbrev pub count_told : State → ℕ → ℕ → ℕ
count_told s place asked =
    if in_window s place 1 then min (min asked 8000) (s.base + length s.memory - place) else 0

-- they are the bytes from the address on
pub record AreBytesFrom (s : State) (place asked : ℕ) (bytes : List ℕ) : Type 0 where
  pub count : length bytes ≡ count_told s place asked
  pub each : (k : ℕ) → k < length bytes → byte_at s (place + k) ≡ Some (slice_index bytes k)

abbrev pub MemoryIsBytes : Type 0
MemoryIsBytes = (s : State) (place asked : ℕ) → AreBytesFrom s place asked (bytes_from s place asked)
