-- Bytes as they are cut at each `$`, and a frame at its `#`.
use Rattle.std.proofs.Common.{◌≡◌, ◌≢◌, ℕ, suc, ◌+◌, ◌*◌, ◌<◌, List, [], ◌∷◌, ◌++◌, length, refl, ap, sym, ◌∙◌, arith, Bool, true, false, cond}
use Rattle.std.specs.Prelude.{◌==◌, Option, Some, None}
use Rattle.std.specs.List.{All, flat_map, slice_split, onto_first, before_first, after_first, position_or_len}
use Rattle.std.proofs.lemmas.Bool.{ne_eqb, lt-leb, and_right, cond-false}
use Rattle.std.proofs.lemmas.List.{append_assoc, append-nil, length-append}
use Rattle.std.proofs.lemmas.List.Concat.{flat_map-append}
use Rattle.std.proofs.lemmas.List.Elements.{All-cons, All-head, All-tail, All-nil}
use Rattle.remote_frames.specs.Frames.{checksum, Heard, Packet, Bad, outside, judged, behind_hash, is_hash, behind_dollar, is_dollar, heard_parts, heard}

abbrev pub NoDollar : ℕ → Type 0
NoDollar byte = byte ≢ 0x24

abbrev pub NoHash : ℕ → Type 0
NoHash byte = byte ≢ 0x23

-- ---- parts

abbrev pub parts_of : List ℕ → List (List ℕ)
parts_of bytes = slice_split is_dollar bytes

-- a list with a first part
abbrev pub Parted : List (List ℕ) → Type 0
Parted all = (first : List ℕ) × (parts : List (List ℕ)) × (all ≡ first ∷ parts)

-- parts with a byte before them, which is `$` or not
abbrev pub after_byte : ℕ → List (List ℕ) → Bool → List (List ℕ)
after_byte b all test = cond test ([] ∷ all) (onto_first b all)

-- there is a part at least
pub first_part : (bytes : List ℕ) → Parted (parts_of bytes)
first_part [] = ([], [], refl)
first_part (b ∷ bytes) = by (first_part bytes) (is_dollar b) where
  by : Parted (parts_of bytes) → (test : Bool) → Parted (after_byte b (parts_of bytes) test)
  by some true = ([], parts_of bytes, refl)
  by some false = (b ∷ some.0, some.1, ap (onto_first b) some.2)

-- bytes without `$` belong to the first part
pub longer_first : (front bytes first : List ℕ) (parts : List (List ℕ)) → All NoDollar front
    → parts_of bytes ≡ first ∷ parts → parts_of (front ++ bytes) ≡ (front ++ first) ∷ parts
longer_first [] bytes first parts lacks same = same
longer_first (b ∷ front) bytes first parts lacks same =
    let other = ne_eqb b 0x24 (All-head NoDollar b front lacks) in
    rw other (ap (onto_first b) (longer_first front bytes first parts (All-tail NoDollar b front lacks) same))

-- what stands behind a `$` begins with another part
pub cut_at_dollar : (before bytes : List ℕ) → parts_of (before ++ 0x24 ∷ bytes) ≡ parts_of before ++ parts_of bytes
cut_at_dollar [] bytes = refl
cut_at_dollar (b ∷ before) bytes = by (cut_at_dollar before bytes) (first_part before) (is_dollar b) where
  onto : (all more : List (List ℕ)) → Parted all → onto_first b (all ++ more) ≡ onto_first b all ++ more
  onto all more some = rw some.2 refl

  by : parts_of (before ++ 0x24 ∷ bytes) ≡ parts_of before ++ parts_of bytes → Parted (parts_of before) → (test : Bool)
      → after_byte b (parts_of (before ++ 0x24 ∷ bytes)) test ≡ after_byte b (parts_of before) test ++ parts_of bytes
  by ih some true = ap (λ (parts : List (List ℕ)). [] ∷ parts) ih
  by ih some false = ap (onto_first b) ih ∙ onto (parts_of before) (parts_of bytes) some

-- what parts say that each stand behind a `$`
abbrev pub frames : List (List ℕ) → List Heard
frames parts = flat_map behind_dollar parts

-- ---- a frame's `#`

one_more : (n : ℕ) → 1 + n ≡ suc n
one_more n = omega arith

one_more_behind : (n : ℕ) → 1 + n + 1 ≡ suc (n + 1)
one_more_behind n = omega arith

-- bytes without `#` stand before it
pub before_hash : (front bytes : List ℕ) → All NoHash front
    → before_first is_hash (front ++ bytes) ≡ front ++ before_first is_hash bytes
before_hash [] bytes lacks = refl
before_hash (b ∷ front) bytes lacks =
    let other = ne_eqb b 0x23 (All-head NoHash b front lacks) in
    rw (other, one_more (position_or_len is_hash (front ++ bytes)))
    (ap (λ (rest : List ℕ). b ∷ rest) (before_hash front bytes (All-tail NoHash b front lacks)))

pub after_hash : (front bytes : List ℕ) → All NoHash front
    → after_first is_hash (front ++ bytes) ≡ after_first is_hash bytes
after_hash [] bytes lacks = refl
after_hash (b ∷ front) bytes lacks =
    let other = ne_eqb b 0x23 (All-head NoHash b front lacks) in
    rw (other, one_more_behind (position_or_len is_hash (front ++ bytes)))
    (after_hash front bytes (All-tail NoHash b front lacks))

pub at_hash : (packet more : List ℕ) → All NoHash packet
    → behind_dollar (packet ++ 0x23 ∷ more) ≡ behind_hash packet more
at_hash packet more lacks =
    let front = before_hash packet (0x23 ∷ more) lacks ∙ append-nil packet in
    let rest = after_hash packet (0x23 ∷ more) lacks in
    ap (λ (p : List ℕ). behind_hash p (after_first is_hash (packet ++ 0x23 ∷ more))) front
    ∙ ap (behind_hash packet) rest

-- without a `#` nothing is said
pub no_hash_yet : (packet : List ℕ) → All NoHash packet → behind_dollar packet ≡ []
no_hash_yet packet lacks =
    let rest = ap (after_first is_hash) (sym (append-nil packet)) ∙ after_hash packet [] lacks in
    ap (behind_hash (before_first is_hash packet)) rest

-- ---- packets that are too long

too_long : (packet : List ℕ) (high low : Option ℕ) → 16384 < length packet → judged packet high low ≡ Bad
too_long packet (Some high) (Some low) long =
    cond-false _ (Packet packet) Bad
    (and_right (high * 16 + low == checksum packet) _ (lt-leb (length packet) 16384 long))
too_long packet (Some high) None long = refl
too_long packet None low long = refl

both_too_long : (one other more : List ℕ) → 16384 < length one → 16384 < length other
    → behind_hash one more ≡ behind_hash other more
both_too_long one other [] long longer = refl
both_too_long one other (high ∷ []) long longer = refl
both_too_long one other (high ∷ low ∷ more) long longer =
    ap (λ (h : Heard). h ∷ flat_map outside more) (too_long one _ _ long ∙ sym (too_long other _ _ longer))

abbrev front : List ℕ → List ℕ → List ℕ
front packet bytes = before_first is_hash (packet ++ bytes)

-- of a packet that is too long no further byte makes a difference
pub too_long_already : (packet more : List ℕ) (byte : ℕ) → All NoHash packet → byte ≢ 0x23 → 16384 < length packet
    → behind_dollar (packet ++ byte ∷ more) ≡ behind_dollar (packet ++ more)
too_long_already packet more byte lacks other long =
    let rest =
    after_hash packet (byte ∷ more) lacks
    ∙ after_hash (byte ∷ []) more (All-cons NoHash byte [] other (All-nil NoHash))
    ∙ sym (after_hash packet more lacks) in
    ap (behind_hash (front packet (byte ∷ more))) rest
    ∙ both_too_long (front packet (byte ∷ more)) (front packet more) (after_first is_hash (packet ++ more))
    (longer (byte ∷ more)) (longer more) where
      longer : (bytes : List ℕ) → 16384 < length (before_first is_hash (packet ++ bytes))
      longer bytes =
          rw (before_hash packet bytes lacks)
          (omega (arith, length-append packet (before_first is_hash bytes), long))
