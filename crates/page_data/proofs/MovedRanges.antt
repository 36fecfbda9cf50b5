-- Source bytes are moved where their ranges are.
use Rattle.std.proofs.Common.{◌≡◌, ℕ, ◌+◌, ◌<◌, Bool, true, false, ◌==◌, ◌&&◌, List, [], ◌∷◌, length, get_or, map, refl, sym, ap, ap₂, ◌∙◌, arith, eqb-true, eq-eqb}
use Rattle.std.specs.Prelude.{if◌then◌else◌}
use Rattle.std.specs.List.{flat_map}
use Rattle.std.proofs.lemmas.Bool.{and_parts}
use Rattle.std.proofs.lemmas.Bool.Decides.{nat_tests}
use Rattle.std.proofs.lemmas.List.{length-map, get_or-map}
use Rattle.flow_model.specs.declared.SourceByte.{SourceByte}
use Rattle.page_data.specs.Rows.{is_moved, each_moved, are_moved}
use Rattle.source_ranges.specs.declared.SourceRange.{SourceRange}
use Rattle.source_ranges.specs.Ranges.{byte_on, bytes_of, range_of, is_just_before, with_byte, ranges_of}
use Rattle.source_ranges.proofs.Kept.{range, bytes-ranges}
use Rattle.page_data.specs.Moved.{range_moved}

abbrev byte_moved : ℕ → SourceByte → SourceByte
byte_moved n b = byte_on b.channel (b.offset + n)

-- ---- bytes

each_is : (n : ℕ) (xs ys : List SourceByte) → length xs ≡ length ys → each_moved n xs ys ≡ true → ys ≡ map (byte_moved n) xs
each_is n [] [] e h = refl
each_is n [] (y ∷ ys) e h = absurd (omega (arith, e))
each_is n (x ∷ xs) [] e h = absurd (omega (arith, e))
each_is n (x ∷ xs) (y ∷ ys) e h =
    let parts = and_parts (is_moved n x y) (each_moved n xs ys) h in
    let own = and_parts (x.channel == y.channel) (x.offset + n == y.offset) parts.0 in
    ap₂ (λ (b : SourceByte) (bs : List SourceByte). b ∷ bs)
    (ap₂ byte_on (sym (eqb-true x.channel y.channel own.0)) (sym (eqb-true (x.offset + n) y.offset own.1)))
    (each_is n xs ys (omega (arith, e)) parts.1)

pub moved_is : (n : ℕ) (xs ys : List SourceByte) → are_moved n xs ys ≡ true → ys ≡ map (byte_moved n) xs
moved_is n xs ys h =
    let parts = and_parts (length xs == length ys) (each_moved n xs ys) h in
    each_is n xs ys (eqb-true (length xs) (length ys) parts.0) parts.1

each_map : (n : ℕ) (xs : List SourceByte) → each_moved n xs (map (byte_moved n) xs) ≡ true
each_map n [] = refl
each_map n (x ∷ xs) =
    ap₂ ◌&&◌ (ap₂ ◌&&◌ (eq-eqb x.channel x.channel refl) (eq-eqb (x.offset + n) (x.offset + n) refl)) (each_map n xs)

map_moved : (n : ℕ) (xs : List SourceByte) → are_moved n xs (map (byte_moved n) xs) ≡ true
map_moved n xs = ap₂ ◌&&◌ (eq-eqb (length xs) (length (map (byte_moved n) xs)) (sym (length-map xs (byte_moved n)))) (each_map n xs)

-- ---- ranges

same_test : (o f n : ℕ) → (o + n + 1 == f + n) ≡ (o + 1 == f)
same_test o f n = grind (arith, nat_tests)

alone : (n : ℕ) (b : SourceByte) → range_of (byte_moved n b) ≡ range_moved n (range_of b)
alone n b = let e : b.offset + n + 1 ≡ b.offset + 1 + n = omega arith in ap (range b.channel (b.offset + n)) e

with_moved : (n : ℕ) (b : SourceByte) (rs : List SourceRange) → with_byte (byte_moved n b) (map (range_moved n) rs) ≡ map (range_moved n) (with_byte b rs)
with_moved n b [] = ap (λ (r : SourceRange). r ∷ []) (alone n b)
with_moved n b (r ∷ rs) =
    let joined = range r.channel (b.offset + n) (r.past + n) ∷ map (range_moved n) rs in
    let apart = range_of (byte_moved n b) ∷ range_moved n r ∷ map (range_moved n) rs in
    ap (λ (t : Bool). if (b.channel == r.channel) && t then joined else apart) (same_test b.offset r.from n)
    ∙ by (is_just_before b r)
  where
    by : (t : Bool)
        → (if t then range r.channel (b.offset + n) (r.past + n) ∷ map (range_moved n) rs else range_of (byte_moved n b) ∷ range_moved n r ∷ map (range_moved n) rs)
        ≡ map (range_moved n) (if t then range r.channel b.offset r.past ∷ rs else range_of b ∷ r ∷ rs)
    by true = refl
    by false = ap (λ (s : SourceRange). s ∷ range_moved n r ∷ map (range_moved n) rs) (alone n b)

ranges_moved : (n : ℕ) (bs : List SourceByte) → ranges_of (map (byte_moved n) bs) ≡ map (range_moved n) (ranges_of bs)
ranges_moved n [] = refl
ranges_moved n (b ∷ bs) = ap (with_byte (byte_moved n b)) (ranges_moved n bs) ∙ with_moved n b (ranges_of bs)

-- ---- both

module _ (n : ℕ) (bs cs : List SourceByte) (rs ss : List SourceRange) (first : rs ≡ ranges_of bs) (second : ss ≡ ranges_of cs) where
  moved_ranges : are_moved n bs cs ≡ true → ss ≡ map (range_moved n) rs
  moved_ranges h = second ∙ ap ranges_of (moved_is n bs cs h) ∙ ranges_moved n bs ∙ ap (map (range_moved n)) (sym first)

  unless : (are_moved n bs cs ≡ true → ⊥) → false ≡ are_moved n bs cs
  unless other = by (are_moved n bs cs) refl
    where
      by : (t : Bool) → are_moved n bs cs ≡ t → false ≡ t
      by true e = absurd (other e)
      by false e = refl

  pub other_count : (length rs ≡ length ss → ⊥) → false ≡ are_moved n bs cs
  other_count other = unless (λ h. other (sym (ap length (moved_ranges h) ∙ length-map rs (range_moved n))))

  pub other_range : (i : ℕ) (d : SourceRange) → i < length rs → (get_or ss i d ≡ range_moved n (get_or rs i d) → ⊥) → false ≡ are_moved n bs cs
  other_range i d low other = unless (λ h. other (ap (λ (xs : List SourceRange). get_or xs i d) (moved_ranges h) ∙ get_or-map (range_moved n) rs i d d low))

  pub all_moved : ss ≡ map (range_moved n) rs → true ≡ are_moved n bs cs
  all_moved h =
      let same : ranges_of cs ≡ ranges_of (map (byte_moved n) bs) =
      sym second ∙ h ∙ ap (map (range_moved n)) first ∙ sym (ranges_moved n bs) in
      let bytes : cs ≡ map (byte_moved n) bs =
      sym (bytes-ranges cs) ∙ ap (flat_map bytes_of) same ∙ bytes-ranges (map (byte_moved n) bs) in
      sym (ap (are_moved n bs) bytes ∙ map_moved n bs)
