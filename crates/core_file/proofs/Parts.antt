-- The parts of a core file.
use Rattle.std.proofs.Common.{◌≡◌, ℕ, zero, suc, ◌+◌, ◌*◌, ◌^◌, ◌<◌, ◌≤◌, List, [], ◌∷◌, ◌++◌, get_or, take, drop, length, replicate, w32, refl, ap, sym, ◌∙◌, arith, Bool, false, length-append}
use Rattle.std.specs.Int.{from_le_bytes}
use Rattle.std.specs.Prelude.{min, nat_lt, if◌then◌else◌, Some}
use Rattle.std.proofs.lemmas.Bool.{le-ltb}
use Rattle.std.proofs.lemmas.List.{drop-drop}
use Rattle.std.proofs.lemmas.List.FromFn.{get_or-map-range_with_len}
use Rattle.std.proofs.lemmas.Nat.{from_le_bytes-to_le_bytes_4}
use Rattle.isa.specs.Machine.{State, reg, wrap}
use Rattle.lists.specs.Fields.{word_at}
use Rattle.lists.proofs.FirstTrue.{first_true-some}
use Rattle.elf_model.specs.declared.ImageKind.TheVariants.{Short, Kind}
use Rattle.elf_model.specs.Image.{e_type, e_machine, program_headers, faults, unless_faulty}
use Rattle.log_model.specs.Logs.{Log, steps}
use Rattle.page_text.specs.Texts.{mark, head}
use Rattle.core_file.specs.Headers.{words, core_mark, note_header, load_header}
use Rattle.core_file.specs.Note.{pr_reg, note}
use Rattle.core_file.specs.CoreFile.{signal_after, state_within, core_of, core_file}
use Rattle.core_file.specs.CoreLaws.{state_at, HasWindow, HasRegisters, IsElfCore, BeginsWithMark, MarkIsLong, IsNoProgram, IsNoLog, IsNoPage}
use Rattle.core_file.proofs.FileWords.{word_again, word_among}

-- up to the run's end the state is that of the moment
within : (s : State) (log : Log) (t : ℕ) → t ≤ steps log → core_file s log t ≡ core_of (signal_after log.end t) (state_at s log t)
within s log t h =
    let same : min t (steps log) ≡ t = omega arith in
    ap (λ (n : ℕ). core_of (signal_after log.end t) (state_at s log n)) same

-- ---- the window

window_behind : (signal : ℕ) (s : State) → drop 340 (core_of signal s) ≡ s.memory
unfolding core_mark note
window_behind signal s = refl

pub has_window : HasWindow
has_window s log t h = ap (drop 340) (within s log t h) ∙ window_behind (signal_after log.end t) (state_at s log t)

-- ---- the registers

registers_behind : (signal : ℕ) (s : State) → drop 208 (core_of signal s) ≡ words (pr_reg s) ++ (replicate 4 0 ++ s.memory)
unfolding core_mark note
registers_behind signal s = refl

register_at : (s : State) (r : ℕ) → 1 ≤ r → r < 32 → get_or (pr_reg s) r 0 ≡ reg s r
register_at s zero from to = absurd (omega arith)
register_at s (suc r) from to = get_or-map-range_with_len (reg s) 1 31 r (suc r) 0 (omega arith) (omega arith)

-- the words behind the note's fields
word_of : (signal : ℕ) (s : State) (k : ℕ) → k < 32 → word_at (core_of signal s) (208 + 4 * k) ≡ wrap (get_or (pr_reg s) k 0)
word_of signal s k h =
    ap (λ (bytes : List ℕ). from_le_bytes w32 (take 4 bytes))
    (sym (drop-drop (4 * k) 208 (core_of signal s)) ∙ ap (drop (4 * k)) (registers_behind signal s))
    ∙ ap (from_le_bytes w32) (word_among (pr_reg s) (replicate 4 0 ++ s.memory) k h)
    ∙ word_again (get_or (pr_reg s) k 0)

pub has_registers : HasRegisters
has_registers s log t h =
    let signal = signal_after log.end t in
    let there = state_at s log t in (
      ap (λ (bytes : List ℕ). word_at bytes 208) (within s log t h) ∙ word_of signal there 0 (omega arith),
      λ r from to. ap (λ (bytes : List ℕ). word_at bytes (208 + 4 * r)) (within s log t h) ∙ word_of signal there r to ∙ ap wrap (register_at there r from to),
    )

-- ---- as an ELF file

headers_are : (signal : ℕ) (s : State) → s.base < 2 ^ 32 → length s.memory < 2 ^ 32 → program_headers (core_of signal s) ≡ note_header ∷ load_header s.base (length s.memory) ∷ []
unfolding core_mark note
headers_are signal s low short = λ i. note_header ∷ record {
  p_type = 1;
  p_offset = 340;
  p_vaddr = from_le_bytes-to_le_bytes_4 s.base low i;
  p_filesz = from_le_bytes-to_le_bytes_4 (length s.memory) short i;
  p_memsz = from_le_bytes-to_le_bytes_4 (length s.memory) short i;
} ∷ []

type_is : (signal : ℕ) (s : State) → e_type (core_of signal s) ≡ 4
unfolding core_mark note
type_is signal s = refl

machine_is : (signal : ℕ) (s : State) → e_machine (core_of signal s) ≡ 243
unfolding core_mark note
machine_is signal s = refl

pub is_elf_core : IsElfCore
is_elf_core s log t low short =
    let signal = signal_after log.end t in
    let there = state_within s log t in
    (type_is signal there, machine_is signal there, headers_are signal there low short)

-- ---- the beginning

mark_before : (signal : ℕ) (s : State) → take 84 (core_of signal s) ≡ core_mark
unfolding core_mark note
mark_before signal s = refl

pub begins_with_mark : BeginsWithMark
begins_with_mark s log t = mark_before (signal_after log.end t) (state_within s log t)

pub mark_is_long : MarkIsLong
unfolding core_mark
mark_is_long = refl

pub is_no_program : IsNoProgram
unfolding core_mark
is_no_program rest =
    let file = core_mark ++ rest in
    let long : nat_lt (length file) 52 ≡ false = le-ltb (length file) 52 (omega (arith, length-append core_mark rest, mark_is_long)) in
    ap (unless_faulty file) (first_true-some 4 (faults file) Kind (ap (λ (b : Bool). if b then Some Short else Some Kind) long))

pub is_no_log : IsNoLog
unfolding core_mark
is_no_log rest other e =
    let first : ◌≡◌ {A = ℕ} 0x7f 0x4a = ap (λ (bytes : List ℕ). get_or bytes 0 0) e in
    omega (arith, first)

pub is_no_page : IsNoPage
unfolding core_mark mark head
is_no_page rest other e =
    let first : ◌≡◌ {A = ℕ} 0x7f 0x3c = ap (λ (bytes : List ℕ). get_or bytes 0 0) e in
    omega (arith, first)
