-- What is always true of core files.
use Rattle.std.specs.Prelude.{◌≡◌, ◌≢◌, ℕ, ◌+◌, ◌*◌, ◌^◌, ◌<◌, ◌≤◌, List, [], ◌∷◌, ◌++◌, length, take, drop, Err, codes}
use Rattle.isa.specs.Machine.{State, wrap, reg}
use Rattle.lists.specs.Fields.{word_at}
use Rattle.elf_model.specs.declared.ImageKind.TheVariants.{Kind}
use Rattle.elf_model.specs.Image.{e_type, e_machine, program_headers, image}
use Rattle.log_model.specs.Logs.{Log, steps}
use Rattle.replay_model.specs.Run.{start, moment_after}
use Rattle.page_text.specs.Texts.{mark as page_mark}
use Rattle.core_file.specs.Headers.{core_mark, note_header, load_header}
use Rattle.core_file.specs.CoreFile.{state_within, core_file}

-- the machine after t steps of a run
abbrev pub state_at : State → Log → ℕ → State
state_at s log t = (moment_after t (start s log)).state

-- the window of the moment stands behind the note, up to the file's end
abbrev pub HasWindow : Type 0
HasWindow = (s : State) (log : Log) (t : ℕ) → t ≤ steps log
    → drop 340 (core_file s log t) ≡ (state_at s log t).memory

-- the note's registers are those of the moment: the pc, and behind it x1 to x31
abbrev pub HasRegisters : Type 0
HasRegisters = (s : State) (log : Log) (t : ℕ) → t ≤ steps log
    → (word_at (core_file s log t) 208 ≡ wrap (state_at s log t).pc)
    × ((r : ℕ) → 1 ≤ r → r < 32 → word_at (core_file s log t) (208 + 4 * r) ≡ wrap (reg (state_at s log t) r))

-- past the run's steps the core file is that of its end
abbrev pub EndsWithRun : Type 0
EndsWithRun = (s : State) (log : Log) (t : ℕ) → steps log ≤ t → core_file s log t ≡ core_file s log (steps log)

-- read as an ELF file it is a core file for RISC-V with two program headers
abbrev pub IsElfCore : Type 0
IsElfCore = (s : State) (log : Log) (t : ℕ)
    → (state_within s log t).base < 2 ^ 32 → length (state_within s log t).memory < 2 ^ 32
    → (e_type (core_file s log t) ≡ 4) × (e_machine (core_file s log t) ≡ 243)
    × (program_headers (core_file s log t)
    ≡ note_header ∷ load_header (state_within s log t).base (length (state_within s log t).memory) ∷ [])

-- each core file begins with the same 84 bytes
abbrev pub BeginsWithMark : Type 0
BeginsWithMark = (s : State) (log : Log) (t : ℕ) → take 84 (core_file s log t) ≡ core_mark

abbrev pub MarkIsLong : Type 0
MarkIsLong = length core_mark ≡ 84

-- no program does: a file that begins so is refused by its e_type
abbrev pub IsNoProgram : Type 0
IsNoProgram = (rest : List ℕ) → image (core_mark ++ rest) ≡ Err Kind

-- no file that begins with these bytes begins so
abbrev pub NoneBeginsWith : List ℕ → Type 0
NoneBeginsWith mark = (rest other : List ℕ) → core_mark ++ rest ≢ mark ++ other

-- none begins as a log does, and none as a page does
abbrev pub IsNoLog : Type 0
IsNoLog = NoneBeginsWith (codes "JETLOG")

abbrev pub IsNoPage : Type 0
IsNoPage = NoneBeginsWith page_mark
