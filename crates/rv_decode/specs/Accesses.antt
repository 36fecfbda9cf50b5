-- What loads and stores do: "Load and Store Instructions" of the RISC-V Unprivileged ISA manual.
use Rattle.std.specs.Prelude.{◌≡◌, ◌⊎◌, ℕ, ◌<◌, Bool, true, false, Option, Some, None}
use Rattle.isa.specs.declared.Instr.{Instr}
use Rattle.isa.specs.declared.Instr.TheVariants.{Lb, Lh, Lw, Lbu, Lhu, Sb, Sh, Sw}
use Rattle.rv_decode.specs.declared.accesses.Load.{Load}
use Rattle.rv_decode.specs.declared.accesses.Store.{Store}

-- what an instruction does with memory
pub data Access : Type 0 where
  Loads : Load → Access
  Stores : Store → Access
  Neither : Access

-- a load, and a store, of these
abbrev pub load : ℕ → ℕ → ℕ → Bool → Access
load d base size is_signed = Loads (record { rd = d; base = base; size = size; is_signed = is_signed })

abbrev pub store : ℕ → ℕ → ℕ → Access
store base source size = Stores (record { source = source; base = base; size = size })

abbrev pub access_of : Instr → Access
access_of (Lb d a imm) = load d a 1 true
access_of (Lh d a imm) = load d a 2 true
access_of (Lw d a imm) = load d a 4 false
access_of (Lbu d a imm) = load d a 1 false
access_of (Lhu d a imm) = load d a 2 false
access_of (Sb a b imm) = store a b 1
access_of (Sh a b imm) = store a b 2
access_of (Sw a b imm) = store a b 4
access_of other = Neither

-- what an instruction loads, and what it stores, if it does
abbrev pub load_in : Access → Option Load
load_in (Loads l) = Some l
load_in (Stores s) = None
load_in Neither = None

abbrev pub store_in : Access → Option Store
store_in (Loads l) = None
store_in (Stores s) = Some s
store_in Neither = None

abbrev pub load_of : Instr → Option Load
load_of i = load_in (access_of i)

abbrev pub store_of : Instr → Option Store
store_of i = store_in (access_of i)

-- it is neither a load nor a store
abbrev pub IsNoAccess : Instr → Type 0
IsNoAccess i = access_of i ≡ Neither

-- so many bytes
abbrev pub IsSize : ℕ → Type 0
IsSize size = (size ≡ 1) ⊎ (size ≡ 2) ⊎ (size ≡ 4)

-- the registers are registers, and the size is one
pub record FitsLoad (l : Load) : Type 0 where
  pub target : l.rd < 32
  pub base : l.base < 32
  pub size : IsSize l.size

pub record FitsStore (s : Store) : Type 0 where
  pub source : s.source < 32
  pub base : s.base < 32
  pub size : IsSize s.size
