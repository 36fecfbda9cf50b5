-- One more byte, wherever it stands.
use Rattle.std.proofs.Common.{◌≡◌, ◌≢◌, ℕ, ◌<◌, List, [], ◌∷◌, ◌++◌, length, refl, ap, sym, ◌∙◌, arith, Bool, true, false, cond, nat_le}
use Rattle.std.specs.List.{All, flat_map}
use Rattle.std.proofs.lemmas.Bool.{leb-false}
use Rattle.std.proofs.lemmas.List.{append_assoc, append-nil}
use Rattle.std.proofs.lemmas.List.Elements.{All-weaker, All-cons, All-nil, All-append}
use Rattle.hex.specs.Hex.{hex_digit_value}
use Rattle.remote_frames.specs.declared.framer.Place.{Place}
use Rattle.remote_frames.specs.declared.framer.Place.TheVariants.{Outside, Inside, FirstDigit, SecondDigit}
use Rattle.remote_frames.specs.Frames.{Heard, outside, judged, behind_hash, behind_dollar, heard_parts, heard}
use Rattle.remote_frames.specs.Reading.{FramerAt, begun_at, begun, with_byte, IsPlain, HasNoDollar}
use Rattle.remote_frames.proofs.Parts.{NoDollar, NoHash, parts_of, frames, first_part, longer_first, at_hash, no_hash_yet, too_long_already}

pub without_dollar : (packet : List ℕ) → All IsPlain packet → All NoDollar packet
without_dollar packet plain = All-weaker IsPlain NoDollar (λ b h. h.no_dollar) packet plain

pub without_hash : (packet : List ℕ) → All IsPlain packet → All NoHash packet
without_hash packet plain = All-weaker IsPlain NoHash (λ b h. h.no_hash) packet plain

pub hash_is_no_dollar : NoDollar 0x23
hash_is_no_dollar e = omega (arith, e)

only : (byte : ℕ) → NoDollar byte → All NoDollar (byte ∷ [])
only byte lacks = All-cons NoDollar byte [] lacks (All-nil NoDollar)

-- ---- outside of frames

pub outside_byte : (byte : ℕ) (after : List ℕ) → byte ≢ 0x24 → heard (byte ∷ after) ≡ outside byte ++ heard after
unfolding heard
outside_byte byte after lacks =
    let some = first_part after in
    ap heard_parts (longer_first (byte ∷ []) after some.0 some.1 (only byte lacks) some.2)
    ∙ append_assoc (outside byte) (flat_map outside some.0) (frames some.1)
    ∙ ap (λ (said : List Heard). outside byte ++ said) (sym (ap heard_parts some.2))

-- ---- `$`

-- a frame that isn't whole says nothing, and is broken off
pub begins_anew : (front after : List ℕ) → All NoDollar front → behind_dollar front ≡ []
    → heard ((0x24 ∷ front) ++ 0x24 ∷ after) ≡ heard (0x24 ∷ after)
unfolding heard
begins_anew front after lacks none =
    ap frames (longer_first front (0x24 ∷ after) [] (parts_of after) lacks refl)
    ∙ ap (λ (part : List ℕ). frames (part ∷ parts_of after)) (append-nil front)
    ∙ ap (λ (said : List Heard). said ++ frames (parts_of after)) none

says_nothing : (front : List ℕ) → All NoDollar front → behind_dollar front ≡ [] → heard (0x24 ∷ front) ≡ []
unfolding heard
says_nothing front lacks none =
    let whole = ap parts_of (sym (append-nil front)) ∙ longer_first front [] [] [] lacks refl in
    ap frames whole
    ∙ ap (λ (part : List ℕ). behind_dollar part ++ []) (append-nil front)
    ∙ ap (λ (said : List Heard). said ++ []) none

with_digits : (packet digits : List ℕ) → All IsPlain packet → All NoDollar digits
    → All NoDollar (packet ++ 0x23 ∷ digits)
with_digits packet digits plain lacks =
    All-append NoDollar packet (0x23 ∷ digits) (without_dollar packet plain)
    (All-cons NoDollar 0x23 digits hash_is_no_dollar lacks)

regrouped : (packet : List ℕ) (high : ℕ) → packet ++ 0x23 ∷ [] ++ high ∷ [] ≡ packet ++ 0x23 ∷ high ∷ []
regrouped packet high = append_assoc packet (0x23 ∷ []) (high ∷ [])

-- a frame that isn't whole has no `$` behind its own, and says nothing
pub unfinished : (packet digits : List ℕ) → All IsPlain packet → All NoDollar digits → behind_hash packet digits ≡ []
    → All NoDollar (packet ++ 0x23 ∷ digits) × (behind_dollar (packet ++ 0x23 ∷ digits) ≡ [])
unfinished packet digits plain lacks none =
    (with_digits packet digits plain lacks, at_hash packet digits (without_hash packet plain) ∙ none)

pub dollar : (place : Place) (packet after : List ℕ) → All IsPlain packet → HasNoDollar place
    → heard (begun_at place packet ++ 0x24 ∷ after) ≡ heard (0x24 ∷ after)
dollar Outside packet after plain digit = refl
dollar Inside packet after plain digit =
    begins_anew packet after (without_dollar packet plain) (no_hash_yet packet (without_hash packet plain))
dollar FirstDigit packet after plain digit =
    let is = unfinished packet [] plain (All-nil NoDollar) refl in
    begins_anew (packet ++ 0x23 ∷ []) after is.0 is.1
dollar (SecondDigit high) packet after plain digit =
    let is = unfinished packet (high ∷ []) plain (only high digit) refl in
    ap (λ (front : List ℕ). heard ((0x24 ∷ front) ++ 0x24 ∷ after)) (regrouped packet high)
    ∙ begins_anew (packet ++ 0x23 ∷ high ∷ []) after is.0 is.1

pub nothing_yet : (place : Place) (packet : List ℕ) → All IsPlain packet → HasNoDollar place
    → heard (begun_at place packet) ≡ []
unfolding heard
nothing_yet Outside packet plain digit = refl
nothing_yet Inside packet plain digit =
    says_nothing packet (without_dollar packet plain) (no_hash_yet packet (without_hash packet plain))
nothing_yet FirstDigit packet plain digit =
    let is = unfinished packet [] plain (All-nil NoDollar) refl in says_nothing (packet ++ 0x23 ∷ []) is.0 is.1
nothing_yet (SecondDigit high) packet plain digit =
    let is = unfinished packet (high ∷ []) plain (only high digit) refl in
    ap (λ (front : List ℕ). heard (0x24 ∷ front)) (regrouped packet high)
    ∙ says_nothing (packet ++ 0x23 ∷ high ∷ []) is.0 is.1

-- ---- in a packet

pub long_packet : (packet after : List ℕ) (byte : ℕ) → All IsPlain packet → byte ≢ 0x24 → byte ≢ 0x23
    → 16384 < length packet → heard ((0x24 ∷ packet) ++ byte ∷ after) ≡ heard ((0x24 ∷ packet) ++ after)
unfolding heard
long_packet packet after byte plain lacks other long =
    let some = first_part after in
    let free = without_dollar packet plain in
    let longer = longer_first (byte ∷ []) after some.0 some.1 (only byte lacks) some.2 in
    ap frames (longer_first packet (byte ∷ after) (byte ∷ some.0) some.1 free longer)
    ∙ ap (λ (said : List Heard). said ++ frames some.1)
    (too_long_already packet some.0 byte (without_hash packet plain) other long)
    ∙ sym (ap frames (longer_first packet after some.0 some.1 free some.2))

-- ---- the end of a frame

pub whole_frame : (packet after : List ℕ) (high low : ℕ) → All IsPlain packet → high ≢ 0x24 → low ≢ 0x24
    → heard ((0x24 ∷ packet) ++ 0x23 ∷ high ∷ low ∷ after)
    ≡ judged packet (hex_digit_value high) (hex_digit_value low) ∷ heard after
unfolding heard
whole_frame packet after high low plain lacks other =
    let some = first_part after in
    let digits = All-cons NoDollar high (low ∷ []) lacks (only low other) in
    let front = with_digits packet (high ∷ low ∷ []) plain digits in
    let grouped = append_assoc packet (0x23 ∷ high ∷ low ∷ []) after in
    ap (λ (rest : List ℕ). frames (parts_of rest)) (sym grouped)
    ∙ ap frames (longer_first (packet ++ 0x23 ∷ high ∷ low ∷ []) after some.0 some.1 front some.2)
    ∙ ap (λ (rest : List ℕ). behind_dollar rest ++ frames some.1) (append_assoc packet (0x23 ∷ high ∷ low ∷ []) some.0)
    ∙ ap (λ (said : List Heard). said ++ frames some.1)
    (at_hash packet (high ∷ low ∷ some.0) (without_hash packet plain))
    ∙ ap (λ (said : List Heard). judged packet (hex_digit_value high) (hex_digit_value low) ∷ said)
    (sym (ap heard_parts some.2))

pub second_digit : (packet after : List ℕ) (high low : ℕ) → All IsPlain packet → high ≢ 0x24 → low ≢ 0x24
    → heard (begun_at (SecondDigit high) packet ++ low ∷ after)
    ≡ judged packet (hex_digit_value high) (hex_digit_value low) ∷ heard after
second_digit packet after high low plain lacks other =
    ap (λ (front : List ℕ). heard ((0x24 ∷ front) ++ low ∷ after)) (regrouped packet high)
    ∙ ap (λ (rest : List ℕ). heard (0x24 ∷ rest)) (append_assoc packet (0x23 ∷ high ∷ []) (low ∷ after))
    ∙ whole_frame packet after high low plain lacks other

-- ---- where a framer stands

pub outside_read : (f : FramerAt) (packet after : List ℕ) (byte : ℕ) → f ≡ record { place = Outside; packet = packet }
    → byte ≢ 0x24 → heard (begun f ++ byte ∷ after) ≡ outside byte ++ heard (begun f ++ after)
outside_read f packet after byte stands other = rw stands (outside_byte byte after other)

pub inside_read : (f : FramerAt) (packet after : List ℕ) (byte : ℕ) → f ≡ record { place = Inside; packet = packet }
    → All IsPlain packet → byte ≢ 0x24 → byte ≢ 0x23
    → heard (begun f ++ byte ∷ after) ≡ heard (begun (with_byte f byte) ++ after)
inside_read f packet after byte stands plain lacks other = rw stands (by (nat_le (length packet) 16384) refl) where
  by : (short : Bool) → nat_le (length packet) 16384 ≡ short
      → heard ((0x24 ∷ packet) ++ byte ∷ after) ≡ heard ((0x24 ∷ cond short (packet ++ byte ∷ []) packet) ++ after)
  by true is = ap (λ (rest : List ℕ). heard (0x24 ∷ rest)) (sym (append_assoc packet (byte ∷ []) after))
  by false is = long_packet packet after byte plain lacks other (leb-false (length packet) 16384 is)

pub digit_read : (f : FramerAt) (packet after : List ℕ) (high low : ℕ)
    → f ≡ record { place = SecondDigit high; packet = packet } → All IsPlain packet → HasNoDollar (SecondDigit high)
    → low ≢ 0x24
    → heard (begun f ++ low ∷ after) ≡ judged packet (hex_digit_value high) (hex_digit_value low) ∷ heard after
digit_read f packet after high low stands plain lacks other =
    rw stands (second_digit packet after high low plain lacks other)
