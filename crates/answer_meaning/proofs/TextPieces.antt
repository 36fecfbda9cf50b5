-- Numbers, names and quoted texts have no line feed, and begin with no `e`.
use Rattle.std.proofs.Common.{◌≡◌, ℕ, zero, suc, ◌+◌, ◌≤◌, ◌<◌, ◌/◌, ◌%◌, Bool, true, false, List, [], ◌∷◌, ◌++◌, length, take, refl, ap, ◌∙◌, subst, arith, get_or, ℤ, pos, negsuc, ltb-true, ltb-false}
use Rattle.std.specs.Prelude.{◌==◌, not, nat_lt, if◌then◌else◌, codes}
use Rattle.std.specs.List.{list_all, AllByRecursion}
use Rattle.std.specs.Fmt.{decimal, signed_decimal, digits, digits_onto, digit_glyph}
use Rattle.std.specs.Int.{w32, to_be_bytes}
use Rattle.std.proofs.lemmas.Bool.{and_parts, not-true}
use Rattle.std.proofs.lemmas.Bool.Decides.{nat_tests}
use Rattle.hex.specs.Hex.{lower_digits, encode_with, encode_lower}
use Rattle.flow_model.specs.declared.Loc.{Loc}
use Rattle.flow_model.specs.declared.Loc.TheVariants.{Reg, Mem}
use Rattle.flow_model.specs.declared.SinkPoint.{SinkPoint}
use Rattle.flow_model.specs.declared.SinkPoint.TheVariants.{Out, At}
use Rattle.report_model.specs.Text.{name_text, loc_text, point_text}
use Rattle.source_ranges.specs.declared.SourceRange.{SourceRange}
use Rattle.source_ranges.specs.Ranges.{span_text, range_text}
use Rattle.printed_names.specs.Places.{pc_text}
use Rattle.printed_names.specs.Quoted.{is_plain, quoted_byte, left_out, quoted_text}
use Rattle.answer_meaning.proofs.TextReading.{AtStart, Inside, InLast, Over, read, Reads, nothing, ◌⨾◌, each}

-- ---- characters

-- a reader stays inside a line at each character but a line feed
stays : (c : ℕ) → (c == 0x0a) ≡ false → Reads Inside (c ∷ []) Inside
stays c e = record { whole = λ later rest. ap (λ (b : Bool). c ∷ read later (if b then AtStart else Inside) rest) e }

stays_last : (c : ℕ) → (c == 0x0a) ≡ false → Reads InLast (c ∷ []) InLast
stays_last c e = record { whole = λ later rest. ap (λ (b : Bool). c ∷ read later (if b then Over else InLast) rest) e }

begins : (c : ℕ) → (c == 0x0a) ≡ false → (c == 0x65) ≡ false → Reads AtStart (c ∷ []) Inside
begins c e f = record {
  whole = λ later rest.
      ap (λ (b : Bool). c ∷ read later (if b then AtStart else (if c == 0x65 then InLast else Inside)) rest) e
      ∙ ap (λ (b : Bool). c ∷ read later (if b then InLast else Inside) rest) f;
}

pub feed : Reads Inside (0x0a ∷ []) AtStart
feed = record { whole = λ later rest. refl }

pub last_feed : Reads InLast (0x0a ∷ []) Over
last_feed = record { whole = λ later rest. refl }

-- ---- texts without a line feed

abbrev pub no_feeds : List ℕ → Bool
no_feeds cs = list_all (λ c. not (c == 0x0a)) cs

pub plain : (text : List ℕ) → no_feeds text ≡ true → Reads Inside text Inside
plain [] e = nothing Inside
plain (c ∷ cs) e = let both = and_parts (not (c == 0x0a)) (no_feeds cs) e in stays c (not-true (c == 0x0a) both.0) ⨾ plain cs both.1

pub in_last : (text : List ℕ) → no_feeds text ≡ true → Reads InLast text InLast
in_last [] e = nothing InLast
in_last (c ∷ cs) e = let both = and_parts (not (c == 0x0a)) (no_feeds cs) e in stays_last c (not-true (c == 0x0a) both.0) ⨾ in_last cs both.1

-- a line that begins with this character and text
pub first : (c : ℕ) (text : List ℕ) → (c == 0x0a) ≡ false → (c == 0x65) ≡ false → no_feeds text ≡ true → Reads AtStart (c ∷ text) Inside
first c text e f g = begins c e f ⨾ plain text g

-- ---- digits

record IsDigit (c : ℕ) : Type 0 where
  low : 48 ≤ c
  high : c ≤ 57

no_feed : (c : ℕ) → 0x0a < c → (c == 0x0a) ≡ false
no_feed c h = grind (arith, nat_tests)

no_e : (c : ℕ) → c < 0x65 → (c == 0x65) ≡ false
no_e c h = grind (arith, nat_tests)

record IsNumber (text : List ℕ) : Type 0 where
  first : ℕ
  rest : List ℕ
  parts : first ∷ rest ≡ text
  is_digit : IsDigit first
  are_digits : AllByRecursion IsDigit rest

glyph : (n : ℕ) → IsDigit (digit_glyph false (n % 10))
glyph n = by (nat_lt (n % 10) 10) refl where
  by : (b : Bool) → nat_lt (n % 10) 10 ≡ b → IsDigit (if b then 48 + n % 10 else (if false then 55 + n % 10 else 87 + n % 10))
  by true e = record { low = omega arith; high = omega (arith, ltb-true (n % 10) 10 e) }
  by false e = absurd (omega (arith, ltb-false (n % 10) 10 e))

with_digit : (b : Bool) (n : ℕ) (acc more : List ℕ) → AllByRecursion IsDigit acc → IsNumber more → IsNumber (if b then digit_glyph false (n % 10) ∷ acc else more)
with_digit true n acc more h later = record { first = digit_glyph false (n % 10); rest = acc; parts = refl; is_digit = glyph n; are_digits = h }
with_digit false n acc more h later = later

number_onto : (k n : ℕ) (acc : List ℕ) → AllByRecursion IsDigit acc → IsNumber (digits_onto (suc k) 10 false n acc)
number_onto zero n acc h =
    let digit = digit_glyph false (n % 10) in
    with_digit (n / 10 == 0) n acc (digit ∷ acc) h (record { first = digit; rest = acc; parts = refl; is_digit = glyph n; are_digits = h })
number_onto (suc k) n acc h =
    let digit = digit_glyph false (n % 10) in
    with_digit (n / 10 == 0) n acc (digits_onto (suc k) 10 false (n / 10) (digit ∷ acc)) h (number_onto k (n / 10) (digit ∷ acc) (glyph n, h))

is_number : (n : ℕ) → IsNumber (decimal n)
unfolding digits
is_number n = number_onto 63 n [] tt

digits_inside : (cs : List ℕ) → AllByRecursion IsDigit cs → Reads Inside cs Inside
digits_inside [] h = nothing Inside
digits_inside (c ∷ cs) h = let low = h.0.low in stays c (no_feed c (omega arith)) ⨾ digits_inside cs h.1

digits_last : (cs : List ℕ) → AllByRecursion IsDigit cs → Reads InLast cs InLast
digits_last [] h = nothing InLast
digits_last (c ∷ cs) h = let low = h.0.low in stays_last c (no_feed c (omega arith)) ⨾ digits_last cs h.1

pub number : (n : ℕ) → Reads Inside (decimal n) Inside
number n = let d = is_number n in subst (λ (t : List ℕ). Reads Inside t Inside) d.parts (digits_inside (d.first ∷ d.rest) (d.is_digit, d.are_digits))

pub number_last : (n : ℕ) → Reads InLast (decimal n) InLast
number_last n = let d = is_number n in subst (λ (t : List ℕ). Reads InLast t InLast) d.parts (digits_last (d.first ∷ d.rest) (d.is_digit, d.are_digits))

pub number_first : (n : ℕ) → Reads AtStart (decimal n) Inside
number_first n =
    let d = is_number n in
    let low = d.is_digit.low in
    let high = d.is_digit.high in
    subst (λ (t : List ℕ). Reads AtStart t Inside) d.parts (begins d.first (no_feed d.first (omega arith)) (no_e d.first (omega arith)) ⨾ digits_inside d.rest d.are_digits)

pub signed_number : (z : ℤ) → Reads Inside (signed_decimal z) Inside
signed_number (pos n) = number n
signed_number (negsuc n) = stays 45 refl ⨾ number (suc n)

-- a digit of a table, at each place
in_table : (table : List ℕ) → AllByRecursion (λ c. (c == 0x0a) ≡ false) table → (i : ℕ) → (get_or table i 0 == 0x0a) ≡ false
in_table [] h i = refl
in_table (c ∷ cs) h zero = h.0
in_table (c ∷ cs) h (suc i) = in_table cs h.1 i

hexadecimal : (bytes : List ℕ) → Reads Inside (encode_lower bytes) Inside
unfolding encode_with
hexadecimal [] = nothing Inside
hexadecimal (b ∷ bs) = stays _ (digit (b / 16)) ⨾ (stays _ (digit (b % 16)) ⨾ hexadecimal bs) where
  digit : (i : ℕ) → (get_or lower_digits i 0 == 0x0a) ≡ false
  digit = in_table lower_digits (refl, (refl, (refl, (refl, (refl, (refl, (refl, (refl, (refl, (refl, (refl, (refl, (refl, (refl, (refl, (refl, tt))))))))))))))))

-- ---- names

pub blank : Reads Inside (codes " ") Inside
blank = plain (codes " ") refl

pub pc : (n : ℕ) → Reads Inside (pc_text n) Inside
pc n = plain (codes "0x") refl ⨾ hexadecimal (to_be_bytes w32 n)

pub pc_first : (n : ℕ) → Reads AtStart (pc_text n) Inside
pc_first n = first 0x30 (codes "x") refl refl refl ⨾ hexadecimal (to_be_bytes w32 n)

pub name : (c o : ℕ) → Reads Inside (name_text c o) Inside
name c o = number c ⨾ plain (codes ":") refl ⨾ number o

pub name_first : (c o : ℕ) → Reads AtStart (name_text c o) Inside
name_first c o = number_first c ⨾ plain (codes ":") refl ⨾ number o

pub loc : (l : Loc) → Reads Inside (loc_text l) Inside
loc (Reg r i) = plain (codes "r:") refl ⨾ number r ⨾ plain (codes ".") refl ⨾ number i
loc (Mem p) = plain (codes "m:") refl ⨾ number p

loc_first : (l : Loc) → Reads AtStart (loc_text l) Inside
loc_first (Reg r i) = first 0x72 (codes ":") refl refl refl ⨾ number r ⨾ plain (codes ".") refl ⨾ number i
loc_first (Mem p) = first 0x6d (codes ":") refl refl refl ⨾ number p

pub point : (s : SinkPoint) → Reads Inside (point_text s) Inside
point (Out b) = name b.channel b.offset
point (At p) = loc p.loc ⨾ plain (codes "@") refl ⨾ number p.time

pub point_first : (s : SinkPoint) → Reads AtStart (point_text s) Inside
point_first (Out b) = name_first b.channel b.offset
point_first (At p) = loc_first p.loc ⨾ plain (codes "@") refl ⨾ number p.time

pub span_first : (c a b : ℕ) → Reads AtStart (span_text c a b) Inside
span_first c a b = name_first c a ⨾ plain (codes "-") refl ⨾ number b

pub range : (r : SourceRange) → Reads Inside (range_text r) Inside
range r = name r.channel r.from ⨾ plain (codes "-") refl ⨾ number r.past

-- ---- quoted texts

shown : (byte : ℕ) → is_plain byte ≡ true → 0x0a < byte
shown byte e = grind (arith, nat_tests, and_parts)

one_quoted : (byte : ℕ) → Reads Inside (quoted_byte byte) Inside
one_quoted byte = by (is_plain byte) refl where
  by : (b : Bool) → is_plain byte ≡ b → Reads Inside (if b then byte ∷ [] else codes "\\x" ++ encode_lower (byte ∷ [])) Inside
  by true e = stays byte (no_feed byte (shown byte e))
  by false e = plain (codes "\\x") refl ⨾ hexadecimal (byte ∷ [])

dots : (bytes : List ℕ) → Reads Inside (left_out bytes) Inside
dots bytes = by (nat_lt 24 (length bytes)) where
  by : (b : Bool) → Reads Inside (if b then codes ".." else []) Inside
  by true = plain (codes "..") refl
  by false = nothing Inside

pub quoted : (bytes : List ℕ) → Reads Inside (quoted_text bytes) Inside
quoted bytes = plain (codes "\"") refl ⨾ each Inside quoted_byte one_quoted (take 24 bytes) ⨾ plain (codes "\"") refl ⨾ dots bytes
