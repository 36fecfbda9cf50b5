-- Worked examples, computed by the checker: a program of two instructions, in a window of their eight bytes.
use Rattle.std.proofs.Common.{◌≡◌, ℕ, List, [], ◌∷◌, ◌++◌, replicate, refl}
use Rattle.isa.specs.Machine.{State}
use Rattle.log_model.specs.declared.RunEnd.TheVariants.{Exit, Trap, Limit}
use Rattle.log_model.specs.Logs.{Log}
use Rattle.core_file.specs.Headers.{core_mark}
use Rattle.core_file.specs.Note.{note, trap_signal}
use Rattle.core_file.specs.CoreFile.{signal_after, core_file}

-- ADDI x5, x0, 7, and then a word
abbrev code : List ℕ → List ℕ
code word = 0x93 ∷ 0x02 ∷ 0x70 ∷ 0x00 ∷ word

abbrev ebreak : List ℕ
ebreak = 0x73 ∷ 0x00 ∷ 0x10 ∷ 0x00 ∷ []

abbrev zeros : ℕ → List ℕ
zeros n = replicate n 0

-- the program begins at 0x10000
abbrev begun : List ℕ → State
begun word = record { pc = 0x10000; registers = zeros 32; base = 0x10000; memory = code word }

-- its run traps after one step
abbrev log : ℕ → Log
log kind = record { pages = 1; inputs = 0; digest = []; records = []; end = Trap 1 kind 0x10004 }

-- the file's bytes, with this signal, the lowest byte of the pc, and x5
abbrev bytes : ℕ → ℕ → ℕ → List ℕ → List ℕ
bytes signal pc x5 word =
    0x7f ∷ 0x45 ∷ 0x4c ∷ 0x46 ∷ 0x01 ∷ 0x01 ∷ 0x01 ∷ zeros 9 ++
    0x04 ∷ 0x00 ∷ 0xf3 ∷ 0x00 ∷ 0x01 ∷ 0x00 ∷ 0x00 ∷ 0x00 ∷ zeros 4 ++
    0x34 ∷ 0x00 ∷ 0x00 ∷ 0x00 ∷ zeros 8 ++
    0x34 ∷ 0x00 ∷ 0x20 ∷ 0x00 ∷ 0x02 ∷ 0x00 ∷ zeros 6 ++
    0x04 ∷ 0x00 ∷ 0x00 ∷ 0x00 ∷ 0x74 ∷ 0x00 ∷ 0x00 ∷ 0x00 ∷ zeros 8 ++
    0xe0 ∷ 0x00 ∷ 0x00 ∷ 0x00 ∷ zeros 4 ++ 0x04 ∷ 0x00 ∷ 0x00 ∷ 0x00 ∷ 0x04 ∷ 0x00 ∷ 0x00 ∷ 0x00 ∷ [] ++
    0x01 ∷ 0x00 ∷ 0x00 ∷ 0x00 ∷ 0x54 ∷ 0x01 ∷ 0x00 ∷ 0x00 ∷ [] ++
    0x00 ∷ 0x00 ∷ 0x01 ∷ 0x00 ∷ 0x00 ∷ 0x00 ∷ 0x01 ∷ 0x00 ∷ [] ++
    0x08 ∷ 0x00 ∷ 0x00 ∷ 0x00 ∷ 0x08 ∷ 0x00 ∷ 0x00 ∷ 0x00 ∷ [] ++
    0x07 ∷ 0x00 ∷ 0x00 ∷ 0x00 ∷ 0x01 ∷ 0x00 ∷ 0x00 ∷ 0x00 ∷ [] ++
    0x05 ∷ 0x00 ∷ 0x00 ∷ 0x00 ∷ 0xcc ∷ 0x00 ∷ 0x00 ∷ 0x00 ∷ 0x01 ∷ 0x00 ∷ 0x00 ∷ 0x00 ∷ [] ++
    0x43 ∷ 0x4f ∷ 0x52 ∷ 0x45 ∷ zeros 4 ++
    zeros 12 ++ signal ∷ zeros 11 ++ 0x01 ∷ zeros 47 ++
    pc ∷ 0x00 ∷ 0x01 ∷ 0x00 ∷ zeros 16 ++ x5 ∷ zeros 107 ++ zeros 4 ++
    code word

-- at its beginning, at its trap, and past its end
at_a_trap : (core_file (begun ebreak) (log 3) 0 ≡ bytes 5 0x00 0 ebreak) × (core_file (begun ebreak) (log 3) 1 ≡ bytes 5 0x04 7 ebreak)
    × (core_file (begun ebreak) (log 3) 9 ≡ bytes 5 0x04 7 ebreak)
unfolding core_mark note
at_a_trap = (refl, refl, refl)

-- before and at a word that stands for no instruction
at_an_illegal_instruction : (core_file (begun (zeros 4)) (log 2) 0 ≡ bytes 5 0x00 0 (zeros 4))
    × (core_file (begun (zeros 4)) (log 2) 1 ≡ bytes 4 0x04 7 (zeros 4))
unfolding core_mark note
at_an_illegal_instruction = (refl, refl)

-- ---- signals

-- misaligned; illegal; a breakpoint; what is fetched, loaded or stored outside
signals : (trap_signal 0 ≡ 7) × (trap_signal 2 ≡ 4) × (trap_signal 3 ≡ 5) × (trap_signal 1 ≡ 11) × (trap_signal 5 ≡ 11) × (trap_signal 7 ≡ 11)
signals = (refl, refl, refl, refl, refl, refl)

-- a run that exited, or was cut off, stands at no trap
at_no_trap : (signal_after (Exit 4 0) 5 ≡ 5) × (signal_after (Limit 4) 4 ≡ 5)
at_no_trap = (refl, refl)
