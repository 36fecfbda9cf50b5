-- What holds between the steps of a loop.
use Rattle.std.proofs.Common.{◌≡◌, ◌≢◌, ◌⊎◌, inl, inr, ℕ, suc, ◌+◌, ◌-◌, ◌*◌, ◌%◌, ◌^◌, ◌<◌, ◌≤◌, true, List, length, take, drop, refl, ap, subst, sym, ◌∙◌, arith}
use Rattle.std.proofs.lemmas.Bool.{le-leb, cases_lt}
use Rattle.isa.specs.declared.Instr.{Instr}
use Rattle.isa.specs.declared.Instr.TheVariants.{Ecall}
use Rattle.isa.specs.Words.{instruction_of}
use Rattle.isa.specs.Machine.{State, Retired, Called, Fetched, execute, effect_of, call_of, place_of, in_window, little_endian, decoded, fetch_if, fetch, outcome_of}
use Rattle.rv_machine.specs.declared.decoded.Slot.{Slot}
use Rattle.rv_machine.specs.Decoded.{IsThere, IsKnown, AreKnown, slot_of}
use Rattle.rv_machine.specs.Effects.{state_of}
use Rattle.rv_machine.specs.Hart.{running, IsPlainStep}
use Rattle.rv_machine.specs.declared.running.Made.{Made}
use Rattle.rv_machine.specs.declared.running.Made.TheVariants as made
use Rattle.rv_machine.specs.Running.{Tells, Wants, IsFollowed, Begun, Then, IsMade, IsChanged, made_pc, number_after, pc_of}

-- the pc is at an offset in a window
record IsAt (s : State) (offset : ℕ) : Type 0 where
  pub in_space : s.base + length s.memory ≤ 2 ^ 32
  pub small : s.pc < 2 ^ 32
  pub is : offset ≡ (s.pc + (2 ^ 32 - s.base)) % 2 ^ 32

inside : (s : State) (offset : ℕ) → IsAt s offset → offset + 4 ≤ length s.memory → in_window s s.pc 4 ≡ true
inside s offset at h =
    let space = at.in_space in
    let small = at.small in
    let is = at.is in
    let above = le-leb s.base s.pc (omega arith) in
    let below = le-leb (s.pc + 4) (s.base + length s.memory) (omega arith) in
    rw (above, below) refl

offset_is : (s : State) (offset : ℕ) → IsAt s offset → offset + 4 ≤ length s.memory → s.pc - s.base ≡ offset
offset_is s offset at h =
    let space = at.in_space in
    let small = at.small in
    let is = at.is in
    omega arith

-- an instruction that is known there, and retires, is fetched
fetched : (s : State) (offset : ℕ) (instr : Instr) → IsAt s offset → IsThere s.memory offset instr → fetch s ≡ Fetched instr
fetched s offset instr at there =
    let start = offset_is s offset at there.inside in
    ap (fetch_if s) (inside s offset at there.inside) ∙ ap (λ (k : ℕ). decoded (instruction_of (little_endian (take 4 (drop k s.memory))))) start ∙ ap decoded there.is

no_call : (s after : State) (instr : Instr) → execute s (effect_of s instr) ≡ Retired after → instr ≢ Ecall
no_call s after instr made e = none (subst (λ (i : Instr). execute s (effect_of s i) ≡ Retired after) e made)
  where
    none : Called (call_of s) ≡ Retired after → ⊥
    none h = cc

there : (s after : State) (offset : ℕ) (slot : Slot) → IsKnown s.memory offset slot → execute s (effect_of s slot.instr) ≡ Retired after → IsThere s.memory offset slot.instr
there s after offset slot known made = by known.is
  where
    by : (slot.instr ≡ Ecall) ⊎ IsThere s.memory offset slot.instr → IsThere s.memory offset slot.instr
    by (inl e) = absurd (no_call s after slot.instr made e)
    by (inr is) = is

plain_step : (s after : State) (offset : ℕ) (slot : Slot) → IsAt s offset → IsKnown s.memory offset slot → execute s (effect_of s slot.instr) ≡ Retired after → IsPlainStep s slot.instr (place_of s slot.instr) (running after)
plain_step s after offset slot at known retires =
    let is = fetched s offset slot.instr at (there s after offset slot known retires) in
    record {
      fetched = is;
      fits = known.bits.fits;
      address = refl;
      retired = ap (outcome_of s) is ∙ retires;
      goes_on = refl;
    }

-- the pc after a step is that of the word whose number it leads to
leads : (base number : ℕ) (made : Made) (before after : List ℕ) → base % 4 ≡ 0 → base < 2 ^ 32 → number < 2 ^ 30 → IsChanged before base made after → made_pc (pc_of base number) made ≡ pc_of base (number_after base number made)
leads base number (made.To target) before after aligned low few (same, there, high) = omega arith
leads base number made before after aligned low few changed = omega arith

-- the slots are right, and the steps that were made were told
pub record IsRunning {W : Type 0} (told : Tells W) (wants : Wants W) (from : State) (was : W) (slots : List Slot) (most left : ℕ) (here : State) (w : W) : Type 0 where
  pub known : AreKnown slots here.memory
  pub within : left ≤ most
  pub made : IsFollowed told wants from was (most - left) here w

pub running_begun : {W : Type 0} (told : Tells W) (wants : Wants W) (from : State) (was : W) (slots : List Slot) (most : ℕ) → AreKnown slots from.memory → IsRunning told wants from was slots most most from was
running_begun told wants from was slots most known =
    let none : 0 ≡ most - most = omega arith in
    record {
      known = known;
      within = omega arith;
      made = subst (λ (n : ℕ). IsFollowed told wants from was n from was) none Begun;
    }

running_more : {W : Type 0} (told : Tells W) (wants : Wants W) (from : State) (was : W) (slots more : List Slot) (most left : ℕ) (here after : State) (w next : W) (offset : ℕ) (slot : Slot) → IsRunning told wants from was slots most left here w → 0 < left → wants w here.pc → IsAt here offset → IsKnown here.memory offset slot → IsMade told here w slot.instr after next → AreKnown more after.memory → IsRunning told wants from was more most (left - 1) after next
running_more told wants from was slots more most left here after w next offset slot r some wanted at known made right =
    let within = r.within in
    let one : suc (most - left) ≡ most - (left - 1) = omega arith in
    record {
      known = right;
      within = omega arith;
      made = subst (λ (n : ℕ). IsFollowed told wants from was n after next) one (Then (most - left) here w slot.instr after next r.made wanted (plain_step here after offset slot at known made.retires) made.is_told);
    }

pub known_word : (slots : List Slot) (memory : List ℕ) (number : ℕ) (slot : Slot) → AreKnown slots memory → number < length slots → slot ≡ slot_of slots number → IsKnown memory (4 * number) slot
known_word slots memory number slot known within is = subst (λ (s : Slot). IsKnown memory (4 * number) s) (sym is) (known.each number within)

-- a step that was made at an address was made at the word that is there
pub at_word : {W : Type 0} (told : Tells W) (pc base number : ℕ) (registers set memory written : List ℕ) (w next : W) (instr : Instr) (made : Made) → pc ≡ pc_of base number
    → IsMade told (state_of pc registers base memory) w instr (state_of (made_pc pc made) set base written) next
    → IsMade told (state_of (pc_of base number) registers base memory) w instr (state_of (made_pc (pc_of base number) made) set base written) next
at_word told pc base number registers set memory written w next instr made e h =
    subst (λ (at : ℕ). IsMade told (state_of at registers base memory) w instr (state_of (made_pc at made) set base written) next) e h

-- a step of a word that has a slot goes on from there
pub running_on : {W : Type 0} (told : Tells W) (wants : Wants W) (from : State) (was : W) (slots more : List Slot) (most left base number : ℕ) (registers set memory written : List ℕ) (w next : W) (slot : Slot) (made : Made) → IsRunning told wants from was slots most left (state_of (pc_of base number) registers base memory) w → 0 < left → wants w (pc_of base number) → number < length slots → length slots ≤ 2 ^ 30 → base % 4 ≡ 0 → base < 2 ^ 32 → base + length memory ≤ 2 ^ 32 → slot ≡ slot_of slots number
    → IsMade told (state_of (pc_of base number) registers base memory) w slot.instr (state_of (made_pc (pc_of base number) made) set base written) next → IsChanged memory base made written → AreKnown more written
    → IsRunning told wants from was more most (left - 1) (state_of (pc_of base (number_after base number made)) set base written) next
running_on {W} told wants from was slots more most left base number registers set memory written w next slot made r some wanted within few aligned low space is does changed right =
    let here = state_of (pc_of base number) registers base memory in
    let at : IsAt here (4 * number) = record { in_space = space; small = omega arith; is = omega arith } in
    let after = state_of (made_pc (pc_of base number) made) set base written in
    let known = known_word slots memory number slot r.known within is in
    subst (λ (pc : ℕ). IsRunning told wants from was more most (left - 1) (state_of pc set base written) next) (leads base number made memory written aligned low (omega arith) changed)
    (running_more told wants from was slots more most left here after w next (4 * number) slot r some wanted at known does right)

-- and the words have few numbers
pub record IsCounted {W : Type 0} (told : Tells W) (wants : Wants W) (from : State) (was : W) (slots : List Slot) (most left : ℕ) (here : State) (w : W) (number : ℕ) : Type 0 where
  pub running : IsRunning told wants from was slots most left here w
  pub few : length slots ≤ 2 ^ 30
  pub small : number ≤ 2 ^ 30
  pub within : number < length slots

-- behind a word whose instruction retired there is a slot, since the last knows nothing
pub more_slots : (slots : List Slot) (memory : List ℕ) (number : ℕ) (slot : Slot) (s after : State) → AreKnown slots memory → slot ≡ slot_of slots number → execute s (effect_of s slot.instr) ≡ Retired after → number < length slots → number + 1 < length slots
more_slots slots memory number slot s after known is retires within = by (cases_lt (number + 1) (length slots))
  where
    by : (number + 1 < length slots) ⊎ (length slots ≤ number + 1) → number + 1 < length slots
    by (inl more) = more
    by (inr none) = absurd (no_call s after slot.instr retires (ap (λ (x : Slot). x.instr) (is ∙ known.last number (omega arith))))

pub counted_on : {W : Type 0} (told : Tells W) (wants : Wants W) (from : State) (was : W) (slots more : List Slot) (most left base number after : ℕ) (registers set memory written : List ℕ) (w next : W) (slot : Slot) (made : Made) → IsCounted told wants from was slots most left (state_of (pc_of base number) registers base memory) w number → 0 < left → wants w (pc_of base number) → base % 4 ≡ 0 → base < 2 ^ 32 → base + length memory ≤ 2 ^ 32 → slot ≡ slot_of slots number
    → IsMade told (state_of (pc_of base number) registers base memory) w slot.instr (state_of (made_pc (pc_of base number) made) set base written) next → IsChanged memory base made written → AreKnown more written → length more ≡ length slots → after ≡ number_after base number made → after < length more
    → IsCounted told wants from was more most (left - 1) (state_of (pc_of base after) set base written) next after
counted_on told wants from was slots more most left base number after registers set memory written w next slot made c some wanted aligned low space is does changed right same e within =
    let few = c.few in
    let on = running_on told wants from was slots more most left base number registers set memory written w next slot made c.running some wanted c.within few aligned low space is does changed right in
    record {
      running = subst (λ (n : ℕ). IsRunning told wants from was more most (left - 1) (state_of (pc_of base n) set base written) next) (sym e) on;
      few = omega arith;
      small = omega arith;
      within = within;
    }
