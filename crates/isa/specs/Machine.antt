-- One step of a hart over one window of memory ("RV32I Base Integer Instruction Set" and "'M' Extension for Integer
-- Multiplication and Division").
use Rattle.std.specs.Prelude.{ℕ, ◌+◌, ◌-◌, ◌*◌, ◌/◌, ◌%◌, ◌^◌, ◌==◌, nat_lt, nat_le, Bool, true, false, not, ◌&&◌, if◌then◌else◌, List, [], ◌∷◌, ◌++◌, length, take, drop, ℤ, pos, ◌*ℤ◌, int_lt, int_div, int_rem, Option, Some, None, slice_index, slice_set, bit_and, bit_or, bit_xor}
use Rattle.std.specs.Int.{w32, cast_unsigned, int_shr, to_le_bytes}
use Rattle.isa.specs.Words.{instruction_of, signed}
use Rattle.isa.specs.declared.Instr.{Instr}
use Rattle.isa.specs.declared.Instr.TheVariants.{Lui, Auipc, Jal, Jalr, Beq, Bne, Blt, Bge, Bltu, Bgeu, Lb, Lh, Lw, Lbu, Lhu, Sb, Sh, Sw, Addi, Slti, Sltiu, Xori, Ori, Andi, Slli, Srli, Srai, Add, Sub, Sll, Slt, Sltu, Xor, Srl, Sra, Or, And, Mul, Mulh, Mulhsu, Mulhu, Div, Divu, Rem, Remu, Fence, Ecall, Ebreak}
use Rattle.isa.specs.declared.Effect.{Effect}
use Rattle.isa.specs.declared.Effect.TheVariants.{SetRegister, Jump, Branch, Load, Store, MoveOn, EnvironmentCall, Breakpoint}
use Rattle.isa.specs.declared.Call.{Call}
use Rattle.isa.specs.declared.CallKind.{CallKind}
use Rattle.isa.specs.declared.CallKind.TheVariants as kind

-- the pc, 32 registers of numbers below 2 ^ 32, and the window: its lowest address and its bytes
pub record State : Type 0 where
  pub pc : ℕ
  pub registers : List ℕ
  pub base : ℕ
  pub memory : List ℕ

-- what a step comes to: the instruction retires and leaves a state, or it calls the environment, or it traps.
-- Traps go by the standard's exception codes: 0 misaligned target, 1 fetch outside the window, 2 illegal
-- instruction, 3 breakpoint, 5 load and 7 store outside the window
pub data Outcome : Type 0 where
  Retired : State → Outcome
  Called : Call → Outcome
  Trapped : ℕ → Outcome

-- addresses and sums wrap round
abbrev pub wrap : ℕ → ℕ
wrap n = n % 2 ^ 32

-- a word as a signed number, and a signed number as a word
abbrev pub as_signed : ℕ → ℤ
as_signed v = signed 32 v

abbrev pub as_word : ℤ → ℕ
as_word z = cast_unsigned w32 z

abbrev pub reg : State → ℕ → ℕ
reg s r = slice_index s.registers r

-- writes to x0 are dropped
abbrev pub with_register : List ℕ → ℕ → ℕ → List ℕ
with_register registers r v = if r == 0 then registers else slice_set registers r v

-- the n bytes from an address on are all in the window
abbrev pub in_window : State → ℕ → ℕ → Bool
in_window s address n = nat_le s.base address && nat_le (address + n) (s.base + length s.memory)

abbrev pub bytes_at : State → ℕ → ℕ → List ℕ
bytes_at s address n = take n (drop (address - s.base) s.memory)

-- the number that bytes stand for, the lowest first
abbrev pub little_endian : List ℕ → ℕ
little_endian [] = 0
little_endian (b ∷ bs) = b + 256 * little_endian bs

-- memory with these bytes in place of those from i on
abbrev pub overwritten : List ℕ → ℕ → List ℕ → List ℕ
overwritten memory i bytes = take i memory ++ bytes ++ drop (i + length bytes) memory

abbrev pub flag : Bool → ℕ
flag b = if b then 1 else 0

-- a number of n bits, sign-extended to a word
abbrev pub sign_extended : ℕ → ℕ → ℕ
sign_extended n v = as_word (signed n v)

-- a word shifted right by k bits, the sign kept
abbrev pub arithmetic_right : ℕ → ℕ → ℕ
arithmetic_right x k = as_word (int_shr (as_signed x) k)

-- the upper 32 bits of a product of 64
abbrev pub upper_word : ℤ → ℕ
upper_word product = as_word (int_shr product 32)

-- "Division Operations": a quotient rounds towards zero, and a remainder has the dividend's sign. The quotient of a
-- division by zero has all bits set, its remainder is the dividend. -2^31 by -1 overflows: the quotient is the word of
-- 2^31, and the remainder 0
abbrev pub quotient : ℕ → ℕ → ℕ
quotient x y = if y == 0 then 2 ^ 32 - 1 else as_word (int_div (as_signed x) (as_signed y))

abbrev pub remainder : ℕ → ℕ → ℕ
remainder x y = if y == 0 then x else as_word (int_rem (as_signed x) (as_signed y))

abbrev pub unsigned_quotient : ℕ → ℕ → ℕ
unsigned_quotient x y = if y == 0 then 2 ^ 32 - 1 else x / y

abbrev pub unsigned_remainder : ℕ → ℕ → ℕ
unsigned_remainder x y = if y == 0 then x else x % y

abbrev pub effective_address : State → ℕ → ℤ → ℕ
effective_address s r imm = wrap (reg s r + as_word imm)

-- branches and JAL are relative to the instruction's pc
abbrev pub relative : State → ℤ → ℕ
relative s imm = wrap (s.pc + as_word imm)

abbrev pub effect_of : State → Instr → Effect
effect_of s (Lui d imm) = SetRegister d (as_word imm)
effect_of s (Auipc d imm) = SetRegister d (relative s imm)
effect_of s (Jal d imm) = Jump d (relative s imm)
effect_of s (Jalr d a imm) = Jump d (effective_address s a imm / 2 * 2)
effect_of s (Beq a b imm) = Branch (reg s a == reg s b) (relative s imm)
effect_of s (Bne a b imm) = Branch (not (reg s a == reg s b)) (relative s imm)
effect_of s (Blt a b imm) = Branch (int_lt (as_signed (reg s a)) (as_signed (reg s b))) (relative s imm)
effect_of s (Bge a b imm) = Branch (not (int_lt (as_signed (reg s a)) (as_signed (reg s b)))) (relative s imm)
effect_of s (Bltu a b imm) = Branch (nat_lt (reg s a) (reg s b)) (relative s imm)
effect_of s (Bgeu a b imm) = Branch (nat_le (reg s b) (reg s a)) (relative s imm)
effect_of s (Lb d a imm) = Load d (effective_address s a imm) 1 true
effect_of s (Lh d a imm) = Load d (effective_address s a imm) 2 true
effect_of s (Lw d a imm) = Load d (effective_address s a imm) 4 false
effect_of s (Lbu d a imm) = Load d (effective_address s a imm) 1 false
effect_of s (Lhu d a imm) = Load d (effective_address s a imm) 2 false
effect_of s (Sb a b imm) = Store (effective_address s a imm) 1 (reg s b)
effect_of s (Sh a b imm) = Store (effective_address s a imm) 2 (reg s b)
effect_of s (Sw a b imm) = Store (effective_address s a imm) 4 (reg s b)
effect_of s (Addi d a imm) = SetRegister d (wrap (reg s a + as_word imm))
effect_of s (Slti d a imm) = SetRegister d (flag (int_lt (as_signed (reg s a)) imm))
effect_of s (Sltiu d a imm) = SetRegister d (flag (nat_lt (reg s a) (as_word imm)))
effect_of s (Xori d a imm) = SetRegister d (bit_xor (reg s a) (as_word imm))
effect_of s (Ori d a imm) = SetRegister d (bit_or (reg s a) (as_word imm))
effect_of s (Andi d a imm) = SetRegister d (bit_and (reg s a) (as_word imm))
effect_of s (Slli d a k) = SetRegister d (wrap (reg s a * 2 ^ k))
effect_of s (Srli d a k) = SetRegister d (reg s a / 2 ^ k)
effect_of s (Srai d a k) = SetRegister d (arithmetic_right (reg s a) k)
effect_of s (Add d a b) = SetRegister d (wrap (reg s a + reg s b))
effect_of s (Sub d a b) = SetRegister d (wrap (reg s a + (2 ^ 32 - reg s b)))
effect_of s (Sll d a b) = SetRegister d (wrap (reg s a * 2 ^ (reg s b % 32)))
effect_of s (Slt d a b) = SetRegister d (flag (int_lt (as_signed (reg s a)) (as_signed (reg s b))))
effect_of s (Sltu d a b) = SetRegister d (flag (nat_lt (reg s a) (reg s b)))
effect_of s (Xor d a b) = SetRegister d (bit_xor (reg s a) (reg s b))
effect_of s (Srl d a b) = SetRegister d (reg s a / 2 ^ (reg s b % 32))
effect_of s (Sra d a b) = SetRegister d (arithmetic_right (reg s a) (reg s b % 32))
effect_of s (Or d a b) = SetRegister d (bit_or (reg s a) (reg s b))
effect_of s (And d a b) = SetRegister d (bit_and (reg s a) (reg s b))
effect_of s (Mul d a b) = SetRegister d (wrap (reg s a * reg s b))
effect_of s (Mulh d a b) = SetRegister d (upper_word (as_signed (reg s a) *ℤ as_signed (reg s b)))
effect_of s (Mulhsu d a b) = SetRegister d (upper_word (as_signed (reg s a) *ℤ pos (reg s b)))
effect_of s (Mulhu d a b) = SetRegister d (reg s a * reg s b / 2 ^ 32)
effect_of s (Div d a b) = SetRegister d (quotient (reg s a) (reg s b))
effect_of s (Divu d a b) = SetRegister d (unsigned_quotient (reg s a) (reg s b))
effect_of s (Rem d a b) = SetRegister d (remainder (reg s a) (reg s b))
effect_of s (Remu d a b) = SetRegister d (unsigned_remainder (reg s a) (reg s b))
effect_of s (Fence kept) = MoveOn
effect_of s Ecall = EnvironmentCall
effect_of s Ebreak = Breakpoint

-- the state after the instruction
abbrev pub moved_on : State → State
moved_on s = record s { pc = wrap (s.pc + 4) }

-- the state after the instruction, with a register set
abbrev pub moved_on_with : State → ℕ → ℕ → State
moved_on_with s d v = record s { pc = wrap (s.pc + 4); registers = with_register s.registers d v }

abbrev pub jumped : State → ℕ → ℕ → State
jumped s d target = record s { pc = target; registers = with_register s.registers d (wrap (s.pc + 4)) }

-- a jump or a taken branch to a target that isn't a multiple of 4 traps, and sets no register
abbrev pub landed : Bool → State → Outcome
landed true after = Retired after
landed false after = Trapped 0

abbrev pub is_aligned : ℕ → Bool
is_aligned target = target % 4 == 0

abbrev pub extended : Bool → ℕ → ℕ → ℕ
extended true n v = sign_extended (8 * n) v
extended false n v = v

-- a load traps outside the window, also where it would set x0
abbrev pub loaded : State → Bool → ℕ → ℕ → ℕ → Bool → Outcome
loaded s true d address n is_signed = Retired (moved_on_with s d (extended is_signed n (little_endian (bytes_at s address n))))
loaded s false d address n is_signed = Trapped 5

abbrev pub low_bytes : ℕ → ℕ → List ℕ
low_bytes n v = take n (to_le_bytes w32 v)

abbrev pub stored : State → Bool → ℕ → ℕ → ℕ → Outcome
stored s true address n v = Retired (record s { pc = wrap (s.pc + 4); memory = overwritten s.memory (address - s.base) (low_bytes n v) })
stored s false address n v = Trapped 7

abbrev pub branched : State → Bool → ℕ → Outcome
branched s true target = landed (is_aligned target) (record s { pc = target })
branched s false target = Retired (moved_on s)

-- the calls by number, which is in x17, and their arguments in x10, x11 and x12
abbrev pub kind_of : ℕ → CallKind
kind_of n =
    if n == 63 then kind.Read else if n == 64 then kind.Write else if n == 93 then kind.Exit else if n == 2000 then kind.Clock else kind.Other

abbrev pub call_of : State → Call
call_of s = record { kind = kind_of (reg s 17); number = reg s 17; args = reg s 10 ∷ reg s 11 ∷ reg s 12 ∷ [] }

abbrev pub execute : State → Effect → Outcome
execute s (SetRegister d v) = Retired (moved_on_with s d v)
execute s (Jump d target) = landed (is_aligned target) (jumped s d target)
execute s (Branch taken target) = branched s taken target
execute s (Load d address n is_signed) = loaded s (in_window s address n) d address n is_signed
execute s (Store address n v) = stored s (in_window s address n) address n v
execute s MoveOn = Retired (moved_on s)
execute s EnvironmentCall = Called (call_of s)
execute s Breakpoint = Trapped 3

-- the instruction at the pc: all its four bytes have to be in the window, and stand for one
pub data Fetch : Type 0 where
  OutsideWindow : Fetch
  Illegal : Fetch
  Fetched : Instr → Fetch

abbrev pub decoded : Option Instr → Fetch
decoded None = Illegal
decoded (Some i) = Fetched i

abbrev pub fetch_if : State → Bool → Fetch
fetch_if s true = decoded (instruction_of (little_endian (bytes_at s s.pc 4)))
fetch_if s false = OutsideWindow

abbrev pub fetch : State → Fetch
fetch s = fetch_if s (in_window s s.pc 4)

abbrev pub outcome_of : State → Fetch → Outcome
outcome_of s OutsideWindow = Trapped 1
outcome_of s Illegal = Trapped 2
outcome_of s (Fetched i) = execute s (effect_of s i)

-- one step
abbrev pub next : State → Outcome
next s = outcome_of s (fetch s)

-- the effective address of a load or a store, and 0 for other effects
abbrev pub address_of : Effect → ℕ
address_of (Load d address n is_signed) = address
address_of (Store address n v) = address
address_of (SetRegister d v) = 0
address_of (Jump d target) = 0
address_of (Branch taken target) = 0
address_of MoveOn = 0
address_of EnvironmentCall = 0
address_of Breakpoint = 0

abbrev pub place_of : State → Instr → ℕ
place_of s i = address_of (effect_of s i)
