-- One more piece at the end.
use Rattle.std.proofs.Common.{◌≡◌, ap, ℕ, ◌+◌, ◌≤◌, List, [], ◌∷◌, ◌++◌, length, take, drop, sum, refl, arith, length-drop, length-append, ◌-◌, Bool, true, false, Option, Some, None}
use Rattle.std.proofs.lemmas.List.{take-append-le, drop-append-le}
use Rattle.std.proofs.Math.Seq.{take-length}
use Rattle.std.proofs.lemmas.List.Sums.{sum_by-cons}
use Rattle.outer_io.specs.Files.{Text}
use Rattle.memory_outside.specs.Names.{names_in, Opened, opened_of, has_room_for, after_name, after_note, with_name}
use Rattle.outer_io.specs.Tells.{Tells, Gains}

pub names_in-append : (bytes more : List ℕ) (lengths : List ℕ) → sum lengths ≡ length bytes
    → names_in (bytes ++ more) (lengths ++ length more ∷ []) ≡ names_in bytes lengths ++ more ∷ []
names_in-append [] more [] e = ap (λ x. x ∷ []) (take-length more)
names_in-append (b ∷ bytes) more [] e = absurd (omega arith)
names_in-append bytes more (n ∷ lengths) e =
    let s : sum (n ∷ lengths) ≡ n + sum lengths = sum_by-cons (λ x. x) n lengths in
    let le : n ≤ length bytes = omega (arith, e) in
    let rest : sum lengths ≡ length (drop n bytes) = omega (arith, e, length-drop n bytes) in
    rw (take-append-le n bytes more le, drop-append-le n bytes more le)
    (ap (λ x. take n bytes ∷ x) (names_in-append (drop n bytes) more lengths rest))

-- one more name, for which there is room
noted-room : (name bytes lengths : List ℕ) (is_lost : Bool) → sum lengths ≡ length bytes
    → opened_of (bytes ++ name) (lengths ++ length name ∷ []) is_lost ≡ after_name name (opened_of bytes lengths is_lost)
noted-room name bytes lengths true whole =
    let bytes_left : 16384 - length (bytes ++ name) ≡ (16384 - length bytes) - length name = omega (arith, length-append bytes name) in
    let names_left : 256 - length (lengths ++ length name ∷ []) ≡ (256 - length lengths) - 1 = omega (arith, length-append lengths (length name ∷ [])) in
    rw (bytes_left, names_left) refl
noted-room name bytes lengths false whole =
    let bytes_left : 16384 - length (bytes ++ name) ≡ (16384 - length bytes) - length name = omega (arith, length-append bytes name) in
    let names_left : 256 - length (lengths ++ length name ∷ []) ≡ (256 - length lengths) - 1 = omega (arith, length-append lengths (length name ∷ [])) in
    rw (bytes_left, names_left, names_in-append bytes name lengths whole) refl

pub noted : (name bytes lengths : List ℕ) (is_lost : Bool) → sum lengths ≡ length bytes
    → has_room_for name (opened_of bytes lengths is_lost) ≡ true
    → opened_of (bytes ++ name) (lengths ++ length name ∷ []) is_lost ≡ after_note name (opened_of bytes lengths is_lost)
noted name bytes lengths is_lost whole room = rw room (noted-room name bytes lengths is_lost whole)

-- or not
pub noted-lost : (name bytes lengths : List ℕ) (is_lost : Bool)
    → has_room_for name (opened_of bytes lengths is_lost) ≡ false
    → opened_of bytes lengths true ≡ after_note name (opened_of bytes lengths is_lost)
noted-lost name bytes lengths is_lost room = rw room refl

-- what is told of the names gains the name
tells-with : (name : Text) (names : Option (List Text)) → Tells names (with_name name names) (Gains (name ∷ []))
tells-with name None = tt
tells-with name (Some names) = refl

pub tells-noted : (name : Text) (opened : Opened) → Tells opened.names (after_note name opened).names (Gains (name ∷ []))
tells-noted name opened = by (has_room_for name opened) refl where
  by : (room : Bool) → has_room_for name opened ≡ room → Tells opened.names (after_note name opened).names (Gains (name ∷ []))
  by true e = rw e (tells-with name opened.names)
  by false e = rw e tt
