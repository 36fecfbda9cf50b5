-- The core file of a run at a time: an ELF file that tells a debugger the registers and the memory of that moment.
use Rattle.std.specs.Prelude.{ℕ, min, nat_le, if◌then◌else◌, List, ◌++◌, length}
use Rattle.isa.specs.Machine.{State}
use Rattle.log_model.specs.declared.RunEnd.{RunEnd}
use Rattle.log_model.specs.declared.RunEnd.TheVariants.{Exit, Trap, Limit}
use Rattle.log_model.specs.Logs.{Log, steps}
use Rattle.replay_model.specs.Run.{start, moment_after}
use Rattle.core_file.specs.Headers.{core_mark, header_bytes, load_header}
use Rattle.core_file.specs.Note.{trap_signal, note}

-- the signal after t steps: that of the trap where the run stands at its trap, and else SIGTRAP
abbrev pub signal_after : RunEnd → ℕ → ℕ
signal_after (Exit at code) t = 5
signal_after (Trap at kind pc) t = if nat_le at t then trap_signal kind else 5
signal_after (Limit at) t = 5

-- the state after t steps of the run from a state under a log. Past the run's steps t counts as their number
abbrev pub state_within : State → Log → ℕ → State
state_within s log t = (moment_after (min t (steps log)) (start s log)).state

-- a state as a core file: the headers, the note, and the window, which may be read, written and executed (PF_R, PF_W,
-- PF_X)
abbrev pub core_of : ℕ → State → List ℕ
core_of signal s = core_mark ++ header_bytes (load_header s.base (length s.memory)) 7 1 ++ note signal s ++ s.memory

-- the core file after t steps
abbrev pub core_file : State → Log → ℕ → List ℕ
core_file s log t = core_of (signal_after log.end t) (state_within s log t)
