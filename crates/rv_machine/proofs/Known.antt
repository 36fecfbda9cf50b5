-- What is known of words, when slots or memory change.
use Rattle.std.proofs.Common.{◌≡◌, ◌≢◌, ◌⊎◌, inl, inr, ℕ, ◌+◌, ◌-◌, ◌*◌, ◌/◌, ◌%◌, ◌^◌, ◌<◌, ◌≤◌, min, true, List, [], ◌∷◌, ◌++◌, length, take, drop, replicate, Some, refl, ap, subst, sym, ◌∙◌, arith, length-append, length-drop, length-take-le, append_assoc, take-append-drop}
use Rattle.std.specs.Prelude.{slice_set}
use Rattle.std.specs.List.{All}
use Rattle.std.proofs.lemmas.Bool.{cases_eq}
use Rattle.std.proofs.lemmas.List.{get_or-set_same, get_or-set_other, length-set, take-append-le, drop-append-le}
use Rattle.std.proofs.lemmas.List.Elements.{All-same, All-replicate}
use Rattle.std.proofs.lemmas.Slice.{drop-append-drop}
use Rattle.isa.specs.declared.Instr.{Instr}
use Rattle.isa.specs.declared.Instr.TheVariants.{Ecall}
use Rattle.isa.specs.Words.{instruction_of}
use Rattle.isa.specs.Machine.{State, little_endian, bytes_at, in_window, overwritten}
use Rattle.isa.proofs.Window.{holds_by, length-overwritten, overwritten-nil}
use Rattle.rv_machine.specs.declared.decoded.Slot.{Slot}
use Rattle.rv_machine.specs.declared.decoded.TheConstants.{UNKNOWN}
use Rattle.rv_machine.specs.Decoded.{HasBits, IsThere, IsKnown, AreKnown, AreForgotten, KnowsNothing, slot_of}
use Rattle.rv_machine.specs.Effects.{IsWritten, window_of}

unknown : (memory : List ℕ) (offset : ℕ) → IsKnown memory offset UNKNOWN
unknown memory offset = record { bits = record { fits = tt; sets = λ s. tt; bits = refl }; is = inl refl }

pub none_known : (n : ℕ) (slots : List Slot) → slots ≡ replicate n UNKNOWN → KnowsNothing slots
none_known n slots e memory =
    let P : Slot → Type 0 = λ s. s ≡ UNKNOWN in
    let all : All (λ s. s ≡ UNKNOWN) slots = All-same (λ (s : Slot). s ≡ UNKNOWN) slots (replicate n UNKNOWN) e (All-replicate (λ (s : Slot). s ≡ UNKNOWN) n UNKNOWN refl) in
    record {
      each = λ k h. subst (λ (s : Slot). IsKnown memory (4 * k) s) (sym (all k UNKNOWN h)) (unknown memory (4 * k));
      last = λ k h. all k UNKNOWN (omega arith);
    }

pub set_known : (slots : List Slot) (memory : List ℕ) (n : ℕ) (slot : Slot) → AreKnown slots memory → n + 1 < length slots → IsKnown memory (4 * n) slot → AreKnown (slice_set slots n slot) memory
set_known slots memory n slot known within here =
    let same = length-set slots n slot in
    record {
      each = λ k h. by k (omega arith) (cases_eq k n);
      last = λ k h. get_or-set_other slots n k slot UNKNOWN (omega arith) ∙ known.last k (omega arith);
    }
  where
    by : (k : ℕ) → k < length slots → (k ≡ n) ⊎ (k ≡ n → ⊥) → IsKnown memory (4 * k) (slot_of (slice_set slots n slot) k)
    by k h (inl e) =
        let at_n : IsKnown memory (4 * n) (slot_of (slice_set slots n slot) n) = subst (λ (s : Slot). IsKnown memory (4 * n) s) (sym (get_or-set_same slots n slot UNKNOWN (omega arith))) here in
        subst (λ (j : ℕ). IsKnown memory (4 * j) (slot_of (slice_set slots n slot) j)) (sym e) at_n
    by k h (inr other) = subst (λ (s : Slot). IsKnown memory (4 * k) s) (sym (get_or-set_other slots n k slot UNKNOWN other)) (known.each k h)

-- ---- memory that is written

front : (place : ℕ) (xs ys : List ℕ) → place + 4 ≤ length xs → take 4 (drop place (xs ++ ys)) ≡ take 4 (drop place xs)
front place xs ys h =
    let left = length-drop place xs in
    ap (λ (l : List ℕ). take 4 l) (drop-append-le place xs ys (omega arith)) ∙ take-append-le 4 (drop place xs) ys (omega arith)

same_before : (memory bytes : List ℕ) (i place : ℕ) → place + 4 ≤ i → i + length bytes ≤ length memory → take 4 (drop place (overwritten memory i bytes)) ≡ take 4 (drop place memory)
same_before memory bytes i place h inside =
    let rest = drop (i + length bytes) memory in
    let size : length (take i memory) ≡ i = length-take-le i memory (omega arith) in
    ap (λ (m : List ℕ). take 4 (drop place m)) (append_assoc (take i memory) bytes rest) ∙ front place (take i memory) (bytes ++ rest) (omega arith) ∙ sym (front place (take i memory) (drop i memory) (omega arith)) ∙ ap (λ (m : List ℕ). take 4 (drop place m)) (take-append-drop i memory)

same_after : (memory bytes : List ℕ) (i place : ℕ) → i + length bytes ≤ place → i + length bytes ≤ length memory → drop place (overwritten memory i bytes) ≡ drop place memory
same_after memory bytes i place h inside =
    let size : length (take i memory) ≡ i = length-take-le i memory (omega arith) in
    let whole = length-append (take i memory) bytes in
    drop-append-drop (i + length bytes) memory (take i memory ++ bytes) place h (omega arith)

same_word : (memory bytes : List ℕ) (i place : ℕ) → (place + 4 ≤ i) ⊎ (i + length bytes ≤ place) → i + length bytes ≤ length memory → take 4 (drop place (overwritten memory i bytes)) ≡ take 4 (drop place memory)
same_word memory bytes i place (inl h) inside = same_before memory bytes i place h inside
same_word memory bytes i place (inr h) inside = ap (λ (l : List ℕ). take 4 l) (same_after memory bytes i place h inside)

still_there : (memory bytes : List ℕ) (i place : ℕ) (instr : Instr) → (place + 4 ≤ i) ⊎ (i + length bytes ≤ place) → i + length bytes ≤ length memory → IsThere memory place instr → IsThere (overwritten memory i bytes) place instr
still_there memory bytes i place instr apart inside there =
    let size = length-overwritten memory i bytes inside in
    let within = there.inside in
    record {
      inside = omega arith;
      is = ap (λ (w : List ℕ). instruction_of (little_endian w)) (same_word memory bytes i place apart inside) ∙ there.is;
    }

still_known : (memory bytes : List ℕ) (i place : ℕ) (slot : Slot) → (place + 4 ≤ i) ⊎ (i + length bytes ≤ place) → i + length bytes ≤ length memory → IsKnown memory place slot → IsKnown (overwritten memory i bytes) place slot
still_known memory bytes i place slot apart inside known = record { bits = known.bits; is = by known.is }
  where
    by : (slot.instr ≡ Ecall) ⊎ IsThere memory place slot.instr → (slot.instr ≡ Ecall) ⊎ IsThere (overwritten memory i bytes) place slot.instr
    by (inl e) = inl e
    by (inr there) = inr (still_there memory bytes i place slot.instr apart inside there)

-- ---- words that are forgotten

pub forgotten_none : (slots : List Slot) (first past : ℕ) → (past ≤ first) ⊎ (length slots ≤ first) → AreForgotten slots slots first past
forgotten_none slots first past none = record { same_length = refl; each = λ k h. inr (refl, by k h none) }
  where
    by : (k : ℕ) → k < length slots → (past ≤ first) ⊎ (length slots ≤ first) → (k < first) ⊎ (past ≤ k)
    by k h (inl e) = grind arith
    by k h (inr e) = inl (omega arith)

pub forgotten_more : (old new : List Slot) (first n : ℕ) → AreForgotten old new first n → n < length old → AreForgotten old (slice_set new n UNKNOWN) first (n + 1)
forgotten_more old new first n f within =
    let same = f.same_length in
    let set_same = length-set new n UNKNOWN in
    record { same_length = omega arith; each = λ k h. by k (f.each k h) (cases_eq k n) }
  where
    here : n < length new
    here = let same = f.same_length in omega arith

    by : (k : ℕ) → (slot_of new k ≡ UNKNOWN) ⊎ ((slot_of new k ≡ slot_of old k) × ((k < first) ⊎ (n ≤ k))) → (k ≡ n) ⊎ (k ≡ n → ⊥) → (slot_of (slice_set new n UNKNOWN) k ≡ UNKNOWN) ⊎ ((slot_of (slice_set new n UNKNOWN) k ≡ slot_of old k) × ((k < first) ⊎ (n + 1 ≤ k)))
    by k was (inl e) = inl (ap (λ (j : ℕ). slot_of (slice_set new n UNKNOWN) j) e ∙ get_or-set_same new n UNKNOWN UNKNOWN here)
    by k (inl e) (inr other) = inl (get_or-set_other new n k UNKNOWN UNKNOWN other ∙ e)
    by k (inr (same, apart)) (inr other) = inr (get_or-set_other new n k UNKNOWN UNKNOWN other ∙ same, past k apart other)
      where
        past : (k : ℕ) → (k < first) ⊎ (n ≤ k) → (k ≡ n → ⊥) → (k < first) ⊎ (n + 1 ≤ k)
        past k (inl h) other = inl h
        past k (inr h) other = inr (omega arith)

pub forgotten_all : (old new : List Slot) (first n past : ℕ) → AreForgotten old new first n → min past (length old) ≤ n → AreForgotten old new first past
forgotten_all old new first n past f done = record { same_length = f.same_length; each = λ k h. by k h (f.each k h) }
  where
    by : (k : ℕ) → k < length old → (slot_of new k ≡ UNKNOWN) ⊎ ((slot_of new k ≡ slot_of old k) × ((k < first) ⊎ (n ≤ k))) → (slot_of new k ≡ UNKNOWN) ⊎ ((slot_of new k ≡ slot_of old k) × ((k < first) ⊎ (past ≤ k)))
    by k h (inl e) = inl e
    by k h (inr (same, inl a)) = inr (same, inl a)
    by k h (inr (same, inr a)) = inr (same, inr (omega arith))

pub forgotten_known : (old new : List Slot) (memory bytes : List ℕ) (i size : ℕ) → AreForgotten old new (i / 4) ((i + size + 3) / 4) → AreKnown old memory → length bytes ≤ size → i + length bytes ≤ length memory → AreKnown new (overwritten memory i bytes)
forgotten_known old new memory bytes i size f known few inside =
    let same = f.same_length in
    record { each = λ k h. by k (omega arith) (f.each k (omega arith)); last = λ k h. last k (omega arith) (f.each k (omega arith)) }
  where
    by : (k : ℕ) → k < length old → (slot_of new k ≡ UNKNOWN) ⊎ ((slot_of new k ≡ slot_of old k) × ((k < i / 4) ⊎ ((i + size + 3) / 4 ≤ k))) → IsKnown (overwritten memory i bytes) (4 * k) (slot_of new k)
    by k h (inl e) = subst (λ (s : Slot). IsKnown (overwritten memory i bytes) (4 * k) s) (sym e) (unknown (overwritten memory i bytes) (4 * k))
    by k h (inr (same, inl a)) = subst (λ (s : Slot). IsKnown (overwritten memory i bytes) (4 * k) s) (sym same) (still_known memory bytes i (4 * k) (slot_of old k) (inl (omega arith)) inside (known.each k h))
    by k h (inr (same, inr a)) = subst (λ (s : Slot). IsKnown (overwritten memory i bytes) (4 * k) s) (sym same) (still_known memory bytes i (4 * k) (slot_of old k) (inr (omega arith)) inside (known.each k h))

    last : (k : ℕ) → k + 1 ≡ length old → (slot_of new k ≡ UNKNOWN) ⊎ ((slot_of new k ≡ slot_of old k) × ((k < i / 4) ⊎ ((i + size + 3) / 4 ≤ k))) → slot_of new k ≡ UNKNOWN
    last k h (inl e) = e
    last k h (inr (same, apart)) = same ∙ known.last k h

pub kept : (slots : List Slot) (memory : List ℕ) (n : ℕ) (slot : Slot) → n + 1 < length slots → HasBits slot → AreKnown slots memory → IsThere memory (4 * n) slot.instr → AreKnown (slice_set slots n slot) memory
kept slots memory n slot within bits known there = set_known slots memory n slot known within (record { bits = bits; is = inr there })

-- an instruction that is known, and no ECALL, is that of its word
pub known_there : (slots : List Slot) (memory : List ℕ) (offset : ℕ) (instr : Instr) → AreKnown slots memory → offset % 4 ≡ 0 → offset / 4 < length slots → (slot_of slots (offset / 4)).instr ≡ instr → instr ≢ Ecall → IsThere memory offset instr
known_there slots memory offset instr known aligned within is other = subst (IsThere memory offset) is (by here.is)
  where
    four : 4 * (offset / 4) ≡ offset
    four = omega arith

    here : IsKnown memory offset (slot_of slots (offset / 4))
    here = subst (λ (k : ℕ). IsKnown memory k (slot_of slots (offset / 4))) four (known.each (offset / 4) within)

    by : ((slot_of slots (offset / 4)).instr ≡ Ecall) ⊎ IsThere memory offset (slot_of slots (offset / 4)).instr → IsThere memory offset (slot_of slots (offset / 4)).instr
    by (inl e) = absurd (other (sym is ∙ e))
    by (inr there) = there

-- the word at the pc of a window
pub there_at : (memory : List ℕ) (base pc : ℕ) (instr : Instr) → in_window (window_of base memory) pc 4 ≡ true → (pc - base) % 4 ≡ 0 → instruction_of (little_endian (bytes_at (window_of base memory) pc 4)) ≡ Some instr → IsThere memory (4 * ((pc - base) / 4)) instr
there_at memory base pc instr inside aligned is =
    let window = holds_by (window_of base memory) pc 4 inside in
    let above = window.above in
    let below = window.below in
    let four : pc - base ≡ 4 * ((pc - base) / 4) = omega arith in
    let here : IsThere memory (pc - base) instr = record { inside = omega arith; is = is } in
    subst (λ (k : ℕ). IsThere memory k instr) four here

-- ---- a step's store, and a read's bytes

pub written_known : (old new : List Slot) (before after : List ℕ) (offset : ℕ) → AreForgotten old new (offset / 4) ((offset + 4 + 3) / 4) → AreKnown old before → IsWritten before offset after → AreKnown new after
written_known old new before after offset f known w = subst (λ (m : List ℕ). AreKnown new m) (sym w.is) (forgotten_known old new before w.bytes offset 4 f known w.few w.inside)

pub stored_known : (old new : List Slot) (before after : List ℕ) (base place offset : ℕ) → base < 2 ^ 32 → offset ≡ (place + (2 ^ 32 - base)) % 2 ^ 32 → AreForgotten old new (offset / 4) ((offset + 4 + 3) / 4) → AreKnown old before → (base ≤ place) × (place < 2 ^ 32) × IsWritten before (place - base) after → AreKnown new after
stored_known old new before after base place offset low e f known (above, high, w) =
    let same : offset ≡ place - base = omega arith in
    written_known old new before after offset f known (subst (λ (k : ℕ). IsWritten before k after) (sym same) w)

pub empty_known : (slots : List Slot) (memory : List ℕ) (i : ℕ) (bytes : List ℕ) → AreKnown slots memory → length bytes ≡ 0 → AreKnown slots (overwritten memory i bytes)
empty_known slots memory i [] known none = subst (λ (m : List ℕ). AreKnown slots m) (sym (overwritten-nil memory i)) known
empty_known slots memory i (b ∷ bs) known none = absurd (omega arith)

pub read_known : (old new : List Slot) (s : State) (address : ℕ) (bytes : List ℕ) (offset : ℕ) → offset ≡ address - s.base → AreForgotten old new (offset / 4) ((offset + length bytes + 3) / 4) → AreKnown old s.memory → in_window s address (length bytes) ≡ true → AreKnown new (overwritten s.memory (address - s.base) bytes)
read_known old new s address bytes offset e f known inside =
    let window = holds_by s address (length bytes) inside in
    let above = window.above in
    let below = window.below in
    subst (λ (k : ℕ). AreKnown new (overwritten s.memory k bytes)) e (forgotten_known old new s.memory bytes offset (length bytes) f known (omega arith) (omega arith))
