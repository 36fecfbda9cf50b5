-- A read or a write that moves bytes, and that doesn't differ from its record. Crates above cite these lemmas.
use Rattle.std.proofs.Common.{◌≡◌, ℕ, ◌+◌, ◌-◌, ◌<◌, ◌≤◌, ◌⊎◌, inl, inr, Bool, true, false, List, [], ◌∷◌, ◌++◌, length, drop, get_or, ℤ, pos, negsuc, None, refl, arith, ap, sym, subst, length-take, length-drop}
use Rattle.std.specs.Prelude.{◌==◌, nat_lt, nat_le, not, if◌then◌else◌, ◌≤ℤ◌, IsTrue}
use Rattle.std.proofs.lemmas.Int.{ints}
use Rattle.std.proofs.lemmas.Bool.{ltb-true, leb-true, eqb-true, le-leb, and_parts, and_from}
use Rattle.isa.specs.Machine.{State, reg, in_window, bytes_at}
use Rattle.isa.specs.Calls.{channel_of, buffer_of, length_of, bad_channel, bad_buffer, not_refused, refusal_of}
use Rattle.isa.proofs.Window.{window_start}
use Rattle.log_model.specs.declared.CallRecord.TheVariants.{Read, Write}
use Rattle.log_model.specs.Logs.{IsRecord, IsRefusal, moved_length}
use Rattle.replay_model.specs.Comparison.{Compared, first_different, arguments, arguments_of, allowed, fields, CallOf}
use Rattle.replay_model.specs.Comparison.{result as result_compared}
use Rattle.replay_model.proofs.Agreement.{all_agree}

-- ---- the window

bound_below : (s : State) (place n m : ℕ) → n ≤ m → IsTrue (in_window s place m) → IsTrue (in_window s place n)
bound_below s place n m h w =
    let both = and_parts (nat_le s.base place) (nat_le (place + m) (s.base + length s.memory)) w in
    let below : place + m ≤ s.base + length s.memory = leb-true (place + m) (s.base + length s.memory) both.1 in
    and_from (nat_le s.base place) (nat_le (place + n) (s.base + length s.memory)) both.0 (le-leb (place + n) (s.base + length s.memory) (omega arith))

pub window_end : (s : State) (place n : ℕ) → IsTrue (in_window s place n) → place + n ≤ s.base + length s.memory
window_end s place n w = leb-true (place + n) (s.base + length s.memory) (and_parts (nat_le s.base place) (nat_le (place + n) (s.base + length s.memory)) w).1

-- as many bytes as were requested
pub length_held : (s : State) (place n : ℕ) → (n ≡ 0) ⊎ IsTrue (in_window s place n) → length (bytes_at s place n) ≡ n
length_held s place n (inl e) = omega (arith, length-take n (drop (place - s.base) s.memory))
length_held s place n (inr w) =
    let first = window_start s place n w in
    let last = window_end s place n w in
    omega (arith, length-take n (drop (place - s.base) s.memory), length-drop (place - s.base) s.memory)

-- ---- a call that isn't refused

pub unrefused : (known none held : Bool) (k : ℕ) → (if not known then bad_channel else if none then not_refused else if held then not_refused else bad_buffer) ≡ pos k → (known ≡ true) × ((none ≡ true) ⊎ (held ≡ true))
unrefused false none held k e = cc
unrefused true true held k e = (refl, inl refl)
unrefused true false true k e = (refl, inr refl)
unrefused true false false k e = cc

pub record IsHeld (s : State) (channels : ℕ) (args : List ℕ) (n : ℕ) : Type 0 where
  pub channel : channel_of args < channels
  pub buffer : buffer_of args ≡ reg s 11
  pub held : IsTrue (in_window s (reg s 11) n)

pub record SameArguments (s : State) (args : List ℕ) : Type 0 where
  pub first : channel_of args ≡ reg s 10
  pub second : buffer_of args ≡ reg s 11
  pub third : length_of args ≡ reg s 12

pub same_arguments : (s : State) (args : List ℕ) (rest : List Compared) → first_different (arguments s args ++ rest) ≡ None → SameArguments s args
same_arguments s args rest d =
    let all = all_agree (arguments s args ++ rest) d in
    let x : pos (channel_of args) ≡ pos (reg s 10) = all.0 in
    let y : pos (buffer_of args) ≡ pos (reg s 11) = all.1.0 in
    let z : pos (length_of args) ≡ pos (reg s 12) = all.1.1.0 in
    record { first = cc; second = cc; third = cc }

held_by : (s : State) (channels : ℕ) (args : List ℕ) (kept refused : ℤ) (bytes : List ℕ) (whole : ℕ) → SameArguments s args → length bytes ≡ moved_length kept → moved_length kept ≤ length_of args → refusal_of s channels (arguments_of s) ≡ refused → kept ≡ allowed refused kept whole → 0 < length bytes → IsHeld s channels args (length bytes)
held_by s channels args kept (negsuc k) bytes whole same size room r e h =
    absurd (omega (arith, ap moved_length e))
held_by s channels args kept (pos k) bytes whole same size room r e h =
    let tests = unrefused (nat_lt (reg s 10) channels) (reg s 12 == 0) (in_window s (reg s 11) (reg s 12)) k r in
    record { channel = subst (λ (x : ℕ). x < channels) (sym same.first) (ltb-true (reg s 10) channels tests.0); buffer = same.second; held = by tests.1 }
  where
    by : ((reg s 12 == 0) ≡ true) ⊎ (in_window s (reg s 11) (reg s 12) ≡ true) → IsTrue (in_window s (reg s 11) (length bytes))
    by (inl z) = let zero : reg s 12 ≡ 0 = eqb-true (reg s 12) 0 z in let third = same.third in absurd (omega arith)
    by (inr w) = let third = same.third in bound_below s (reg s 11) (length bytes) (reg s 12) (omega arith) w

-- a transfer that moves bytes isn't refused
pub transfer_held : (s : State) (channels : ℕ) (args : List ℕ) (kept : ℤ) (bytes : List ℕ) (whole : ℕ) (rest : List Compared) → length bytes ≡ moved_length kept → moved_length kept ≤ length_of args → first_different (arguments s args ++ result_compared kept (allowed (refusal_of s channels (arguments_of s)) kept whole) ∷ rest) ≡ None → 0 < length bytes → IsHeld s channels args (length bytes)
transfer_held s channels args kept bytes whole rest size room d h =
    let refused = refusal_of s channels (arguments_of s) in
    let compares = result_compared kept (allowed refused kept whole) ∷ rest in
    held_by s channels args kept refused bytes whole (same_arguments s args compares d) size room refl (all_agree (arguments s args ++ compares) d).1.1.1.0 h

-- ---- what a record's ranges say

read_room : (args : List ℕ) (kept : ℤ) → (IsRefusal kept ⊎ ((pos 0 ≤ℤ kept) × (kept ≤ℤ pos (get_or args 2 0)))) → moved_length kept ≤ length_of args
read_room args (negsuc k) h = omega arith
read_room args (pos n) (inl (inl e)) = cc
read_room args (pos n) (inl (inr e)) = cc
read_room args (pos n) (inr h) = let below : pos n ≤ℤ pos (get_or args 2 0) = h.1 in omega (arith, ints)

write_room : (args : List ℕ) (kept : ℤ) → (IsRefusal kept ⊎ (kept ≡ pos (get_or args 2 0))) → moved_length kept ≤ length_of args
write_room args kept (inl (inl e)) = omega (arith, ap moved_length e)
write_room args kept (inl (inr e)) = omega (arith, ap moved_length e)
write_room args kept (inr e) = omega (arith, ap moved_length e)

pub read_held : (s : State) (inputs at : ℕ) (args : List ℕ) (kept : ℤ) (bytes : List ℕ) → IsRecord (Read at args kept bytes) → first_different (fields s inputs (CallOf (Read at args kept bytes))) ≡ None → 0 < length bytes → IsHeld s inputs args (length bytes)
read_held s inputs at args kept bytes form d h = transfer_held s inputs args kept bytes 0 [] form.1.whole (read_room args kept form.2) d h

pub write_held : (s : State) (inputs at : ℕ) (args : List ℕ) (kept : ℤ) (bytes : List ℕ) (rest : List Compared) → IsRecord (Write at args kept bytes) → first_different (arguments s args ++ result_compared kept (allowed (refusal_of s 16 (arguments_of s)) kept (reg s 12)) ∷ rest) ≡ None → 0 < length bytes → IsHeld s 16 args (length bytes)
write_held s inputs at args kept bytes rest form d h = transfer_held s 16 args kept bytes (reg s 12) rest form.1.whole (write_room args kept form.2) d h
