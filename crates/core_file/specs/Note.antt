-- The note of a core file: a process's signal and registers (System V gABI, chapter 5, "Note Section"; Linux,
-- <linux/elfcore.h>, `struct elf_prstatus` of a 32-bit RISC-V, whose pr_reg is `struct user_regs_struct` of
-- <asm/ptrace.h>).
use Rattle.std.specs.Prelude.{ℕ, ◌==◌, if◌then◌else◌, List, [], ◌∷◌, ◌++◌, map, replicate, codes}
use Rattle.std.specs.List.{range_with_len}
use Rattle.isa.specs.Machine.{State, reg}
use Rattle.core_file.specs.Headers.{half, words}

-- the signal of a trap, by its kind: SIGBUS of a misaligned target, SIGILL of an illegal instruction, SIGTRAP of a
-- breakpoint, and SIGSEGV of what isn't in the window
abbrev pub trap_signal : ℕ → ℕ
trap_signal kind = if kind == 0 then 7 else if kind == 2 then 4 else if kind == 3 then 5 else 11

-- pr_reg: the pc, and x1 to x31
abbrev pub pr_reg : State → List ℕ
pr_reg s = s.pc ∷ map (reg s) (range_with_len 1 31)

-- pr_info; pr_cursig, and no pending or held signals; pr_pid; no other process, and no times; pr_reg; and pr_fpvalid:
-- there are no floating-point registers
abbrev pub prstatus : ℕ → State → List ℕ
prstatus signal s =
    replicate 12 0 ++ half signal ++ replicate 10 0 ++ words (1 ∷ []) ++ replicate 44 0
    ++ words (pr_reg s) ++ replicate 4 0

-- the lengths of name and descriptor, NT_PRSTATUS; the name and its end, up to a multiple of 4; and the descriptor
unfoldable pub note : ℕ → State → List ℕ
note signal s = words (5 ∷ 204 ∷ 1 ∷ []) ++ codes "CORE" ++ replicate 4 0 ++ prstatus signal s
