-- Slots of numbers, where a block is made or a value is set.
use Rattle.std.proofs.Common.{◌≡◌, ℕ, ◌+◌, ◌*◌, ◌/◌, ◌%◌, ◌<◌, ◌≤◌, List, [], ◌∷◌, ◌++◌, length, ◌⊎◌, inl, inr, not, Result, Ok, Err, refl, ap, sym, ◌∙◌, subst, Bool, true, false, cond, nat_eq, nat_lt, arith, get_or, eqb, ltb-true, ltb-false}
use Rattle.std.specs.Prelude.{IfOk, OnErr}
use Rattle.std.specs.List.{position_or_len, list_any}
use Rattle.indexmap.specs.IndexSet.{insert_key}
use Rattle.std.proofs.lemmas.Bool.{eq-eqb, eqb-true, or_parts}
use Rattle.std.proofs.lemmas.List.{get_or_past, length-append}
use Rattle.std.proofs.lemmas.List.Folds.{position_or_len_push}
use Rattle.std.proofs.lemmas.List.Sums.{passes_at_first}
use Rattle.epoch_summary.specs.Slots.{AreFilled, IsBlock, slot_of}

-- two numbers that have one slot of a block are one
pub slots_apart : (keys : List ℕ) (m n : ℕ) → slot_of keys m ≡ slot_of keys n → slot_of keys n < 64 * length keys → m ≡ n
slots_apart keys m n same inside =
    let p = position_or_len (nat_eq (m / 64)) keys in
    let q = position_or_len (nat_eq (n / 64)) keys in
    let blocks : p ≡ q = omega (arith, same) in
    let within : q < length keys = omega (arith, inside) in
    let within_too : p < length keys = omega (arith, blocks, within) in
    let key_of_m = eqb-true (m / 64) (get_or keys p 0) (passes_at_first (nat_eq (m / 64)) keys 0 within_too) in
    let key_of_n = eqb-true (n / 64) (get_or keys q 0) (passes_at_first (nat_eq (n / 64)) keys 0 within) in
    let keys_same : m / 64 ≡ n / 64 = key_of_m ∙ ap (λ (i : ℕ). get_or keys i 0) blocks ∙ sym key_of_n in
    omega (arith, same, blocks, keys_same)

module _ (keys slots more : List ℕ) (filled : AreFilled keys slots)
    (same : (i d : ℕ) → i < 64 * (length keys + 1) → i < length slots → get_or more i d ≡ get_or slots i d)
    (fresh : (i d : ℕ) → length slots ≤ i → i < 64 * (length keys + 1) → get_or more i d ≡ 0)
    (size : length more ≡ 64 * (length keys + 1)) where
  -- room for a block holds nothing
  alike : (i : ℕ) → get_or more i 0 ≡ get_or slots i 0
  alike i = by (nat_lt i (length slots)) refl (nat_lt i (64 * (length keys + 1))) refl where
    by : (a : Bool) → nat_lt i (length slots) ≡ a → (b : Bool) → nat_lt i (64 * (length keys + 1)) ≡ b → get_or more i 0 ≡ get_or slots i 0
    by true e true f = same i 0 (ltb-true i (64 * (length keys + 1)) f) (ltb-true i (length slots) e)
    by true e false f =
        let past = ltb-false i (64 * (length keys + 1)) f in
        get_or_past more i 0 (omega (arith, past, size)) ∙ sym (filled.rest i (omega (arith, past)))
    by false e true f = fresh i 0 (ltb-false i (length slots) e) (ltb-true i (64 * (length keys + 1)) f) ∙ sym (get_or_past slots i 0 (ltb-false i (length slots) e))
    by false e false f =
        let past = ltb-false i (64 * (length keys + 1)) f in
        get_or_past more i 0 (omega (arith, past, size)) ∙ sym (get_or_past slots i 0 (ltb-false i (length slots) e))

  -- with this room, whether the block is there or not
  pub still_filled : AreFilled keys more
  still_filled = record { room = omega (arith, size); rest = λ i h. alike i ∙ filled.rest i h }

  module _ (key : ℕ) where
    pub more_filled : AreFilled (keys ++ key ∷ []) more
    more_filled =
        let count = length-append keys (key ∷ []) in
        record {
          room = omega (arith, size, count);
          rest = λ i h. let past : 64 * length keys ≤ i = omega (arith, h, count) in alike i ∙ filled.rest i past;
        }

    -- and so each number still has its value
    pub more_held : (n : ℕ) → get_or more (slot_of (keys ++ key ∷ []) n) 0 ≡ get_or slots (slot_of keys n) 0
    more_held n =
        let p = position_or_len (nat_eq (n / 64)) keys in
        let pushed = position_or_len_push (nat_eq (n / 64)) keys key in
        by (eqb p (length keys)) refl pushed where
          by : (b : Bool) → eqb (position_or_len (nat_eq (n / 64)) keys) (length keys) ≡ b
              → position_or_len (nat_eq (n / 64)) (keys ++ key ∷ []) ≡ cond b (length keys + cond (nat_eq (n / 64) key) 0 1) (position_or_len (nat_eq (n / 64)) keys)
              → get_or more (slot_of (keys ++ key ∷ []) n) 0 ≡ get_or slots (slot_of keys n) 0
          by true e is =
              let none = eqb-true (position_or_len (nat_eq (n / 64)) keys) (length keys) e in
              let before : 64 * length keys ≤ slot_of keys n = omega (arith, none) in
              let after : 64 * length keys ≤ slot_of (keys ++ key ∷ []) n = omega (arith, is) in
              alike (slot_of (keys ++ key ∷ []) n) ∙ filled.rest (slot_of (keys ++ key ∷ []) n) after ∙ sym (filled.rest (slot_of keys n) before)
          by false e is = alike (slot_of (keys ++ key ∷ []) n) ∙ ap (λ (q : ℕ). get_or slots (64 * q + n % 64) 0) is

  pub same_held : (n : ℕ) → get_or more (slot_of keys n) 0 ≡ get_or slots (slot_of keys n) 0
  same_held n = alike (slot_of keys n)

-- ---- the keys of blocks, with one more

eqb-itself : (n : ℕ) → eqb n n ≡ true
eqb-itself n = eq-eqb n n refl

-- a key that is inserted where no block has it comes last, unless there is no memory
pub keys_after : {E : Type 0} (o : Result (ℕ × Bool) E) (keys after : List ℕ) (key : ℕ) → IfOk o (λ r. after ≡ insert_key nat_eq keys key) → OnErr o (after ≡ keys)
    → list_any (nat_eq key) keys ≡ false → (after ≡ keys) ⊎ (after ≡ keys ++ key ∷ [])
keys_after (Ok r) keys after key put kept absent = inr (put ∙ ap (λ (b : Bool). cond b keys (keys ++ key ∷ [])) absent)
keys_after (Err e) keys after key put kept absent = inl kept

absent_last : (test : ℕ → Bool) (keys : List ℕ) → list_any test keys ≡ false → position_or_len test keys ≡ length keys
absent_last test [] e = refl
absent_last test (k ∷ ks) e =
    let parts = or_parts (test k) (list_any test ks) e in
    let rest = absent_last test ks parts.1 in
    ap (λ (b : Bool). cond (not b) (1 + position_or_len test ks) 0) parts.0 ∙ omega (arith, rest)

-- its block is there then
pub block_made : (keys : List ℕ) (key block : ℕ) → list_any (nat_eq key) keys ≡ false → block ≡ position_or_len (nat_eq key) keys → IsBlock (keys ++ key ∷ []) key (64 * block)
block_made keys key block absent is =
    let count = length-append keys (key ∷ []) in
    let last = absent_last (nat_eq key) keys absent in
    let pushed = position_or_len_push (nat_eq key) keys key in
    let at_end : eqb (position_or_len (nat_eq key) keys) (length keys) ≡ true = rw last (eqb-itself (length keys)) in
    let itself : nat_eq key key ≡ true = eqb-itself key in
    let place : position_or_len (nat_eq key) (keys ++ key ∷ []) ≡ length keys = pushed ∙ rw (at_end, itself) (omega arith) in
    record { start = omega (arith, is, last, place); inside = omega (arith, is, last, count) }

-- a block that is there stays where it is
pub block_kept : (keys : List ℕ) (key k first : ℕ) → IsBlock keys k first → IsBlock (keys ++ key ∷ []) k first
block_kept keys key k first b = by (eqb (position_or_len (nat_eq k) keys) (length keys)) refl (position_or_len_push (nat_eq k) keys key) where
  by : (c : Bool) → eqb (position_or_len (nat_eq k) keys) (length keys) ≡ c
      → position_or_len (nat_eq k) (keys ++ key ∷ []) ≡ cond c (length keys + cond (nat_eq k key) 0 1) (position_or_len (nat_eq k) keys)
      → IsBlock (keys ++ key ∷ []) k first
  by true e is =
      let none = eqb-true (position_or_len (nat_eq k) keys) (length keys) e in
      absurd (omega (arith, none, b.start, b.inside))
  by false e is =
      let count = length-append keys (key ∷ []) in
      record { start = b.start ∙ ap (λ (q : ℕ). 64 * q) (sym is); inside = omega (arith, b.inside, count) }

-- ---- a block that is made where it isn't there, or not where there is no memory

module _ (keys slots more after : List ℕ) (key : ℕ) (filled : AreFilled keys slots)
    (same : (i d : ℕ) → i < 64 * (length keys + 1) → i < length slots → get_or more i d ≡ get_or slots i d)
    (fresh : (i d : ℕ) → length slots ≤ i → i < 64 * (length keys + 1) → get_or more i d ≡ 0)
    (size : length more ≡ 64 * (length keys + 1)) (is : (after ≡ keys) ⊎ (after ≡ keys ++ key ∷ [])) where
  pub made_filled : AreFilled after more
  made_filled = elim is [
    | inl e ↦ subst (λ (ks : List ℕ). AreFilled ks more) (sym e) (still_filled keys slots more filled same fresh size)
    | inr e ↦ subst (λ (ks : List ℕ). AreFilled ks more) (sym e) (more_filled keys slots more filled same fresh size key)
  ]

  pub made_kept : (k first : ℕ) → IsBlock keys k first → IsBlock after k first
  made_kept k first b = elim is [
    | inl e ↦ subst (λ (ks : List ℕ). IsBlock ks k first) (sym e) b
    | inr e ↦ subst (λ (ks : List ℕ). IsBlock ks k first) (sym e) (block_kept keys key k first b)
  ]

  pub made_held : (n : ℕ) → get_or more (slot_of after n) 0 ≡ get_or slots (slot_of keys n) 0
  made_held n = elim is [
    | inl e ↦ ap (λ (ks : List ℕ). get_or more (slot_of ks n) 0) e ∙ same_held keys slots more filled same fresh size n
    | inr e ↦ ap (λ (ks : List ℕ). get_or more (slot_of ks n) 0) e ∙ more_held keys slots more filled same fresh size key n
  ]
