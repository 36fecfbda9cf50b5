-- What frames say among other bytes, and what a beginning says.
use Rattle.std.proofs.Common.{◌≡◌, ◌≢◌, ℕ, ◌+◌, ◌*◌, ◌/◌, ◌%◌, ◌<◌, ◌≤◌, ◌⊎◌, inl, inr, List, [], ◌∷◌, ◌++◌, length, map, refl, ap, sym, ◌∙◌, arith, Bool, true, false, cond}
use Rattle.std.specs.Prelude.{◌==◌, Option, Some, None, slice_index}
use Rattle.std.specs.List.{All, flat_map, onto_first}
use Rattle.std.proofs.lemmas.Bool.{eq-eqb, le-leb, cases_eq}
use Rattle.std.proofs.lemmas.List.{append_assoc, append-nil}
use Rattle.std.proofs.lemmas.List.Concat.{flat_map-append}
use Rattle.std.proofs.lemmas.List.Elements.{All-cons, All-head, All-tail, All-nil}
use Rattle.std.proofs.lemmas.Option.{none-some}
use Rattle.hex.specs.Hex.{encode_with, encode_lower, lower_digits, hex_digit_value}
use Rattle.hex.proofs.HexLemmas.{IsDigits-lower_digits}
use Rattle.remote_frames.specs.Frames.{checksum, frame, Heard, Packet, Bad, outside, judged, behind_hash, behind_dollar, is_dollar, heard_parts, heard}
use Rattle.remote_frames.specs.FrameLaws.{IsPacket, IsHeard, AreHeard, BeginningIsHeard}
use Rattle.remote_frames.proofs.Parts.{NoHash, parts_of, Parted, after_byte, frames, first_part, cut_at_dollar, at_hash, no_hash_yet}
use Rattle.remote_frames.proofs.Steps.{whole_frame}

-- ---- a packet in its frame

digit_is_no_dollar : (digit value : ℕ) → hex_digit_value digit ≡ Some value → digit ≢ 0x24
digit_is_no_dollar digit value is same = none-some value (sym (ap hex_digit_value same) ∙ is)

-- the digits of a checksum are judged as it
judged_right : (packet : List ℕ) (high low : ℕ) → length packet ≤ 16384
    → hex_digit_value high ≡ Some (checksum packet / 16) → hex_digit_value low ≡ Some (checksum packet % 16)
    → judged packet (hex_digit_value high) (hex_digit_value low) ≡ Packet packet
judged_right packet high low short first second =
    let whole = eq-eqb (checksum packet / 16 * 16 + checksum packet % 16) (checksum packet) (omega arith) in
    let room = le-leb (length packet) 16384 short in
    rw (first, second, whole, room) refl

framed : (packet after : List ℕ) → IsPacket packet → heard (frame packet ++ after) ≡ Packet packet ∷ heard after
unfolding encode_with
framed packet after is =
    let total = checksum packet in
    let high = slice_index lower_digits (total / 16) in
    let low = slice_index lower_digits (total % 16) in
    let first : hex_digit_value high ≡ Some (total / 16) = IsDigits-lower_digits (total / 16) (omega arith) in
    let second : hex_digit_value low ≡ Some (total % 16) = IsDigits-lower_digits (total % 16) (omega arith) in
    ap (λ (rest : List ℕ). heard (0x24 ∷ rest)) (append_assoc (packet ++ 0x23 ∷ []) (high ∷ low ∷ []) after)
    ∙ ap (λ (rest : List ℕ). heard (0x24 ∷ rest)) (append_assoc packet (0x23 ∷ []) (high ∷ low ∷ after))
    ∙ whole_frame packet after high low is.plain (digit_is_no_dollar high _ first) (digit_is_no_dollar low _ second)
    ∙ ap (λ (h : Heard). h ∷ heard after) (judged_right packet high low is.short first second)

parts_append : (all more : List (List ℕ)) → Parted all → heard_parts (all ++ more) ≡ heard_parts all ++ frames more
parts_append all more some =
    rw some.2 (ap (λ (said : List Heard). flat_map outside some.0 ++ said) (flat_map-append behind_dollar some.1 more)
    ∙ sym (append_assoc (flat_map outside some.0) (frames some.1) (frames more)))

-- what stands before a `$` says what it says without what follows
apart : (before bytes : List ℕ) → heard (before ++ 0x24 ∷ bytes) ≡ heard before ++ heard (0x24 ∷ bytes)
unfolding heard
apart before bytes =
    ap heard_parts (cut_at_dollar before bytes) ∙ parts_append (parts_of before) (parts_of bytes) (first_part before)

pub is_heard : IsHeard
is_heard before packet after is =
    apart before (packet ++ 0x23 ∷ [] ++ encode_lower (checksum packet ∷ []) ++ after)
    ∙ ap (λ (said : List Heard). heard before ++ said) (framed packet after is)

pub are_heard : AreHeard
unfolding heard
are_heard [] each = refl
are_heard (packet ∷ packets) each =
    framed packet (flat_map frame packets) (All-head IsPacket packet packets each)
    ∙ ap (λ (said : List Heard). Packet packet ∷ said) (are_heard packets (All-tail IsPacket packet packets each))

-- ---- a beginning

abbrev Grows : List Heard → List Heard → Type 0
Grows said all = (more : List Heard) × (all ≡ said ++ more)

-- a packet, `#`, and more
abbrev AtHash : List ℕ → Type 0
AtHash bytes = (packet : List ℕ) × (more : List ℕ) × All NoHash packet × (bytes ≡ packet ++ 0x23 ∷ more)

hash_or_none : (bytes : List ℕ) → All NoHash bytes ⊎ AtHash bytes
hash_or_none [] = inl (All-nil NoHash)
hash_or_none (b ∷ bytes) = by (hash_or_none bytes) (cases_eq b 0x23) where
  by : All NoHash bytes ⊎ AtHash bytes → (b ≡ 0x23) ⊎ (b ≢ 0x23) → All NoHash (b ∷ bytes) ⊎ AtHash (b ∷ bytes)
  by rest (inl same) = inr ([], bytes, All-nil NoHash, ap (λ (c : ℕ). c ∷ bytes) same)
  by (inl none) (inr other) = inl (All-cons NoHash b bytes other none)
  by (inr some) (inr other) =
      inr (b ∷ some.0, some.1, All-cons NoHash b some.0 other some.2, ap (λ (rest : List ℕ). b ∷ rest) some.3)

digits_grow : (packet more after : List ℕ) → Grows (behind_hash packet more) (behind_hash packet (more ++ after))
digits_grow packet [] after = (behind_hash packet after, refl)
digits_grow packet (high ∷ []) after = (behind_hash packet (high ∷ after), refl)
digits_grow packet (high ∷ low ∷ more) after =
    let frame : Heard = judged packet (hex_digit_value high) (hex_digit_value low) in
    (flat_map outside after, ap (λ (said : List Heard). frame ∷ said) (flat_map-append outside more after))

frame_grows : (bytes after : List ℕ) → Grows (behind_dollar bytes) (behind_dollar (bytes ++ after))
frame_grows bytes after = by (hash_or_none bytes) where
  by : All NoHash bytes ⊎ AtHash bytes → Grows (behind_dollar bytes) (behind_dollar (bytes ++ after))
  by (inl none) =
      let all = behind_dollar (bytes ++ after) in
      (all, ap (λ (said : List Heard). said ++ all) (sym (no_hash_yet bytes none)))
  by (inr some) =
      let front = at_hash some.0 some.1 some.2 in
      let whole = digits_grow some.0 some.1 after in
      let longer = ap (λ (b : List ℕ). b ++ after) some.3 ∙ append_assoc some.0 (0x23 ∷ some.1) after in (
        whole.0,
        ap behind_dollar longer ∙ at_hash some.0 (some.1 ++ after) some.2 ∙ whole.1
            ∙ ap (λ (said : List Heard). said ++ whole.0) (sym (ap behind_dollar some.3 ∙ front)),
      )

-- the parts of longer bytes: the last part grows, and others follow
abbrev grown : List ℕ → List (List ℕ) → List (List ℕ) → List (List ℕ)
grown first parts [] = first ∷ parts
grown first parts (last ∷ []) = (last ++ first) ∷ parts
grown first parts (part ∷ next ∷ rest) = part ∷ grown first parts (next ∷ rest)

parts_grow : (bytes after first : List ℕ) (parts : List (List ℕ)) → parts_of after ≡ first ∷ parts
    → parts_of (bytes ++ after) ≡ grown first parts (parts_of bytes)
parts_grow [] after first parts same = same
parts_grow (b ∷ bytes) after first parts same =
    by (parts_grow bytes after first parts same) (first_part bytes) (is_dollar b) where
      beside : (all : List (List ℕ)) → Parted all → [] ∷ grown first parts all ≡ grown first parts ([] ∷ all)
      beside all some = rw some.2 refl

      onto : (one : List ℕ) (rest : List (List ℕ))
          → onto_first b (grown first parts (one ∷ rest)) ≡ grown first parts (onto_first b (one ∷ rest))
      onto one [] = refl
      onto one (next ∷ rest) = refl

      by : parts_of (bytes ++ after) ≡ grown first parts (parts_of bytes) → Parted (parts_of bytes) → (test : Bool)
          → after_byte b (parts_of (bytes ++ after)) test ≡ grown first parts (after_byte b (parts_of bytes) test)
      by ih some true = ap (λ (all : List (List ℕ)). [] ∷ all) ih ∙ beside (parts_of bytes) some
      by ih some false = ap (onto_first b) ih ∙ rw some.2 (onto some.0 some.1)

frames_grow : (first last : List ℕ) (parts rest : List (List ℕ))
    → Grows (frames (last ∷ rest)) (frames (grown first parts (last ∷ rest)))
frames_grow first last parts [] =
    let one = frame_grows last first in
    let more : List Heard = one.0 ++ frames parts in (
      more,
      ap (λ (said : List Heard). said ++ frames parts) one.1
          ∙ append_assoc (behind_dollar last) one.0 (frames parts)
          ∙ ap (λ (said : List Heard). said ++ more) (sym (append-nil (behind_dollar last))),
    )
frames_grow first last parts (next ∷ rest) =
    let more = frames_grow first next parts rest in (
      more.0,
      ap (λ (said : List Heard). behind_dollar last ++ said) more.1
          ∙ sym (append_assoc (behind_dollar last) (frames (next ∷ rest)) more.0),
    )

all_grow : (first one : List ℕ) (parts rest : List (List ℕ))
    → Grows (heard_parts (one ∷ rest)) (heard_parts (grown first parts (one ∷ rest)))
all_grow first one parts [] =
    let more : List Heard = flat_map outside first ++ frames parts in (
      more,
      ap (λ (said : List Heard). said ++ frames parts) (flat_map-append outside one first)
          ∙ append_assoc (flat_map outside one) (flat_map outside first) (frames parts)
          ∙ ap (λ (said : List Heard). said ++ more) (sym (append-nil (flat_map outside one))),
    )
all_grow first one parts (next ∷ rest) =
    let more = frames_grow first next parts rest in (
      more.0,
      ap (λ (said : List Heard). flat_map outside one ++ said) more.1
          ∙ sym (append_assoc (flat_map outside one) (frames (next ∷ rest)) more.0),
    )

pub beginning_is_heard : BeginningIsHeard
unfolding heard
beginning_is_heard bytes after =
    let some = first_part bytes in
    let next = first_part after in
    let more = all_grow next.0 some.0 next.1 some.1 in (
      more.0,
      ap heard_parts (parts_grow bytes after next.0 next.1 next.2)
          ∙ ap (λ (all : List (List ℕ)). heard_parts (grown next.0 next.1 all)) some.2
          ∙ more.1 ∙ ap (λ (said : List Heard). said ++ more.0) (sym (ap heard_parts some.2)),
    )
