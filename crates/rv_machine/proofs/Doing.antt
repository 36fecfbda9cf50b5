-- What an effect comes to by parts is what it comes to.
use Rattle.std.proofs.Common.{◌≡◌, inl, inr, ℕ, ◌+◌, ◌-◌, ◌≤◌, Bool, true, false, length, refl, ap, arith, length-take}
use Rattle.std.specs.Int.{w32, to_le_bytes}
use Rattle.isa.specs.declared.Effect.{Effect}
use Rattle.isa.specs.declared.Effect.TheVariants.{SetRegister, Jump, Branch, Load, Store, MoveOn, EnvironmentCall, Breakpoint}
use Rattle.isa.specs.declared.Instr.{Instr}
use Rattle.isa.specs.declared.Instr.TheVariants.{Lb, Lh, Lw, Lbu, Lhu, Sb, Sh, Sw, Ecall, Ebreak}
use Rattle.isa.specs.Encodings.{Fits}
use Rattle.isa.specs.Machine.{State, execute, effect_of, address_of, wrap, is_aligned, jumped, landed, branched, loaded, stored, in_window, low_bytes}
use Rattle.isa.proofs.Window.{holds_by}
use Rattle.rv_decode.specs.Accesses.{Access, Loads, Stores, Neither, access_of, load_in, store_in, IsNoAccess, FitsLoad, FitsStore}
use Rattle.rv_machine.specs.Effects.{state_of, pc_after, IsOutcome, IsWritten, landing, branching, loading, storing, next_of, set_if, loaded_value, registers_after, written_if, memory_after, MaySet}

low_short : (n v : ℕ) → length (low_bytes n v) ≤ n
low_short n v = let short = length-take n (to_le_bytes w32 v) in omega arith

low_few : (n v : ℕ) → length (low_bytes n v) ≤ 4
low_few n v =
    let short = length-take n (to_le_bytes w32 v) in
    let four : length (to_le_bytes w32 v) ≡ 4 = refl in
    omega arith

-- an effect on memory is that of a load or a store, and every other is that of neither
abbrev IsAccess : Effect → Access → Type 0
IsAccess (Load d address n is_signed) (Loads load) = FitsLoad load
IsAccess (Load d address n is_signed) a = ⊥
IsAccess (Store address n v) (Stores store) = FitsStore store
IsAccess (Store address n v) a = ⊥
IsAccess EnvironmentCall a = Unit {0}
IsAccess Breakpoint a = Unit {0}
IsAccess e a = a ≡ Neither

accesses : (s : State) (i : Instr) → Fits i → IsAccess (effect_of s i) (access_of i)
accesses s (Lb d a imm) (target, base, small) = record { target = target; base = base; size = inl refl }
accesses s (Lh d a imm) (target, base, small) = record { target = target; base = base; size = inr (inl refl) }
accesses s (Lw d a imm) (target, base, small) = record { target = target; base = base; size = inr (inr refl) }
accesses s (Lbu d a imm) (target, base, small) = record { target = target; base = base; size = inl refl }
accesses s (Lhu d a imm) (target, base, small) = record { target = target; base = base; size = inr (inl refl) }
accesses s (Sb a b imm) (base, source, small) = record { source = source; base = base; size = inl refl }
accesses s (Sh a b imm) (base, source, small) = record { source = source; base = base; size = inr (inl refl) }
accesses s (Sw a b imm) (base, source, small) = record { source = source; base = base; size = inr (inr refl) }
accesses s Ecall fits = tt
accesses s Ebreak fits = tt
accesses s i fits = refl

lands : (s : State) (i : Instr) (is_there : Bool) (target : ℕ) → IsNoAccess i → is_aligned target ≡ is_there → IsOutcome s i (landed is_there (record s { pc = target })) 0 (landing is_there target) (state_of (pc_after s.pc (landing is_there target)) s.registers s.base s.memory)
lands s i true target none e = (record { retires = refl; reaches = refl }, refl, e, none)
lands s i false target none e = (refl, refl)

by_effect : (s : State) (i : Instr) (e : Effect) → IsAccess e (access_of i) → IsOutcome s i (execute s e) (address_of e) (next_of s i e) (state_of (pc_after s.pc (next_of s i e)) (registers_after s e) s.base (memory_after s e))
by_effect s i (SetRegister d v) none = (record { retires = refl; reaches = refl }, refl, none)
by_effect s i (Jump d target) none = by (is_aligned target) refl
  where
    by : (b : Bool) → is_aligned target ≡ b → IsOutcome s i (landed b (jumped s d target)) 0 (landing b target) (state_of (pc_after s.pc (landing b target)) (set_if b s.registers d (wrap (s.pc + 4))) s.base s.memory)
    by true e = (record { retires = refl; reaches = refl }, refl, e, none)
    by false e = (refl, refl)
by_effect s i (Branch taken target) none = by taken
  where
    by : (b : Bool) → IsOutcome s i (branched s b target) 0 (branching b target) (state_of (pc_after s.pc (branching b target)) s.registers s.base s.memory)
    by true = lands s i (is_aligned target) target none refl
    by false = (record { retires = refl; reaches = refl }, refl, none)
by_effect s i (Load d address n is_signed) access = by (in_window s address n) (access_of i) refl access
  where
    by : (b : Bool) (a : Access) → access_of i ≡ a → IsAccess (Load d address n is_signed) a → IsOutcome s i (loaded s b d address n is_signed) address (loading b (load_in a) address) (state_of (pc_after s.pc (loading b (load_in a) address)) (set_if b s.registers d (loaded_value s address n is_signed)) s.base s.memory)
    by true (Loads load) is fits = (record { retires = refl; reaches = refl }, refl, ap load_in is, fits)
    by true a is access = absurd access
    by false a is access = (refl, refl)
by_effect s i (Store address n v) access = by (in_window s address n) refl (access_of i) refl access
  where
    by : (b : Bool) → in_window s address n ≡ b → (a : Access) → access_of i ≡ a → IsAccess (Store address n v) a → IsOutcome s i (stored s b address n v) address (storing b (store_in a) address) (state_of (pc_after s.pc (storing b (store_in a) address)) s.registers s.base (written_if b s.memory (address - s.base) (low_bytes n v)))
    by true e (Stores store) is fits =
        let there = holds_by s address n e in
        let above = there.above in
        let below = there.below in
        let short = low_short n v in
        let written : IsWritten s.memory (address - s.base) (written_if true s.memory (address - s.base) (low_bytes n v)) = record { bytes = low_bytes n v; few = low_few n v; inside = omega arith; is = refl } in
        (record { retires = refl; reaches = refl }, above, written, ap store_in is, fits)
    by true e a is access = absurd access
    by false e a is access = (refl, refl)
by_effect s i MoveOn none = (record { retires = refl; reaches = refl }, refl, none)
by_effect s i e none = (refl, refl)

pub does : (s : State) (i : Instr) → Fits i → IsOutcome s i (execute s (effect_of s i)) (address_of (effect_of s i)) (next_of s i (effect_of s i)) (state_of (pc_after s.pc (next_of s i (effect_of s i))) (registers_after s (effect_of s i)) s.base (memory_after s (effect_of s i)))
does s i fits = by_effect s i (effect_of s i) (accesses s i fits)

-- each register may be set by one who may set any
pub may_any : (e : Effect) → MaySet (λ d. Unit {0}) e
may_any (SetRegister d v) = tt
may_any (Load d address n is_signed) = tt
may_any e = tt
