-- Worked steps: what stands at the pc is fetched and carried out. The words are an assembler's.
use Rattle.std.proofs.Common.{◌≡◌, ℕ, List, [], ◌∷◌, ◌++◌, replicate, refl}
use Rattle.isa.specs.declared.CallKind.TheVariants as kind
use Rattle.isa.specs.Machine.{State, Retired, Called, Trapped, next}

-- x10 has 5, x11 6, x12 7, x17 the number of a call, and the other registers 0
abbrev registers : ℕ → List ℕ
registers number = replicate 10 0 ++ (5 ∷ 6 ∷ 7 ∷ 0 ∷ 0 ∷ 0 ∷ 0 ∷ number ∷ replicate 14 0)

-- the window's last bytes are those below 2 ^ 32
abbrev hart : ℕ → ℕ → ℕ → List ℕ → State
hart pc number base memory = record { pc = pc; registers = registers number; base = base; memory = memory }

-- ECALL
abbrev ecall : List ℕ
ecall = 0x73 ∷ 0 ∷ 0 ∷ 0 ∷ []

steps :
    -- SW x0, -4(x0): its own word becomes 0, and the next pc is 0
    (next (hart 0xfffffffc 0 0xfffffffc (0x23 ∷ 0x2e ∷ 0x00 ∷ 0xfe ∷ [])) ≡ Retired (hart 0 0 0xfffffffc (0 ∷ 0 ∷ 0 ∷ 0 ∷ [])))
    -- the word at the pc has to be in the window whole
    × (next (hart 0xfffffffd 0 0xfffffffc ecall) ≡ Trapped 1)
    × (next (hart 0xfff 0 0x1000 (0x13 ∷ 0x13 ∷ ecall)) ≡ Trapped 1)
    -- no instruction has the word 0
    × (next (hart 0x1000 0 0x1000 (0 ∷ 0 ∷ 0 ∷ 0 ∷ [])) ≡ Trapped 2)
    -- a call has its number in x17, and its arguments in x10, x11 and x12
    × (next (hart 0x1004 64 0x1000 (ecall ++ ecall)) ≡ Called (record { kind = kind.Write; number = 64; args = 5 ∷ 6 ∷ 7 ∷ [] }))
steps = (refl, refl, refl, refl, refl)
