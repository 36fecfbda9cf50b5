-- Ranges that are cut wherever a row begins or ends to list source bytes: a row lists all bytes of such a range, or none.
use Rattle.std.proofs.Common.{◌≡◌, ℕ, ◌-◌, ◌^◌, ◌<◌, ◌≤◌, ◌⊎◌, inl, inr, List, [], ◌∷◌, ◌++◌, length, map, get_or, Bool, true, cond, refl, sym, ap, ap₂, ◌∙◌, subst, arith}
use Rattle.std.specs.Prelude.{All, Contains, ◌||◌}
use Rattle.std.specs.List.{filter, flat_map, AllByRecursion}
use Rattle.std.specs.Ordering.{eq_by_cmp}
use Rattle.std.proofs.lemmas.Bool.{cases_lt}
use Rattle.std.proofs.lemmas.List.{append_assoc, get_or_default}
use Rattle.std.proofs.lemmas.List.Elements.{recursion_from_All}
use Rattle.std.proofs.lemmas.List.Folds.{list_any-append}
use Rattle.flow_model.specs.declared.SourceByte.{SourceByte}
use Rattle.flow_model.specs.Orders.{source_cmp}
use Rattle.lists.specs.Sets.{has}
use Rattle.lists.proofs.Lists.{all-parts}
use Rattle.lists.proofs.Tests.{same-tests}
use Rattle.report_model.specs.Rows.{Row}
use Rattle.source_ranges.specs.declared.SourceRange.{SourceRange}
use Rattle.source_ranges.specs.Ranges.{byte_on, bytes_of, ranges_of}
use Rattle.source_ranges.proofs.Kept.{range, bytes-ranges, bytes-split, IsFrom, one_of, is_one}
use Rattle.sink_collect.specs.Places.{place_on, start_of, end_of, ends_of, cuts_of, IsNotWithin, IsUncut, IsAlike}

-- ---- the bytes of a range

abbrev pub IsIn : SourceByte → SourceRange → Type 0
IsIn b r = IsFrom b r.channel r.from (r.past - r.from)

pub in_has : (b : SourceByte) (r : SourceRange) → IsIn b r → has source_cmp b (bytes_of r) ≡ true
in_has b r = is_one b r.channel r.from (r.past - r.from)

pub has_in : (b : SourceByte) (r : SourceRange) → has source_cmp b (bytes_of r) ≡ true → IsIn b r
has_in b r = one_of b r.channel r.from (r.past - r.from)

-- ---- one range, and the ends of others

in_front : (p g : SourceRange) (o : ℕ) → p.from ≤ o → o < p.past → IsNotWithin p (start_of g) → IsIn (byte_on p.channel o) g → IsIn (byte_on p.channel p.from) g
in_front p g o low high (inl s) h =
    let e = h.channel in
    let above = h.high in
    record { channel = e; low = omega arith; high = omega arith }
in_front p g o low high (inr s) h =
    let e = h.channel in
    let below = h.low in
    absurd (omega arith)

in_rest : (p g : SourceRange) (o : ℕ) → p.from ≤ o → o < p.past → IsNotWithin p (end_of g) → IsIn (byte_on p.channel p.from) g → IsIn (byte_on p.channel o) g
in_rest p g o low high (inl s) h =
    let e = h.channel in
    let above = h.high in
    absurd (omega arith)
in_rest p g o low high (inr s) h =
    let e = h.channel in
    let below = h.low in
    record { channel = e; low = omega arith; high = omega arith }

module _ (p : SourceRange) (o : ℕ) (low : p.from ≤ o) (high : o < p.past) where
  abbrev here : SourceByte
  here = byte_on p.channel o

  abbrev first : SourceByte
  first = byte_on p.channel p.from

  one_range : (g : SourceRange) → IsNotWithin p (start_of g) → IsNotWithin p (end_of g) → has source_cmp here (bytes_of g) ≡ has source_cmp first (bytes_of g)
  one_range g s e =
      same-tests (has source_cmp here (bytes_of g)) (has source_cmp first (bytes_of g))
      (λ h. in_has first g (in_front p g o low high s (has_in here g h)))
      (λ h. in_has here g (in_rest p g o low high e (has_in first g h)))

  all_ranges : (gs : List SourceRange) → AllByRecursion (IsNotWithin p) (flat_map ends_of gs) → has source_cmp here (flat_map bytes_of gs) ≡ has source_cmp first (flat_map bytes_of gs)
  all_ranges [] a = refl
  all_ranges (g ∷ gs) a =
      list_any-append (eq_by_cmp source_cmp here) (bytes_of g) (flat_map bytes_of gs)
      ∙ ap₂ (λ (x y : Bool). x || y) (one_range g a.0 a.1.0) (all_ranges gs a.1.1)
      ∙ sym (list_any-append (eq_by_cmp source_cmp first) (bytes_of g) (flat_map bytes_of gs))

  one_row : (r : Row) → AllByRecursion (IsNotWithin p) (cuts_of r) → has source_cmp here r.sources ≡ has source_cmp first r.sources
  one_row r a =
      ap (has source_cmp here) (sym (bytes-ranges r.sources)) ∙ all_ranges (ranges_of r.sources) a ∙ ap (has source_cmp first) (bytes-ranges r.sources)

  listing : (rows : List Row) → AllByRecursion (IsNotWithin p) (flat_map cuts_of rows)
      → filter (λ r. has source_cmp here r.sources) rows ≡ filter (λ r. has source_cmp first r.sources) rows
  listing [] a = refl
  listing (r ∷ rows) a =
      let both = all-parts (IsNotWithin p) (cuts_of r) (flat_map cuts_of rows) a in
      ap₂ (λ (t : Bool) (rs : List Row). cond t (r ∷ rs) rs) (one_row r both.0) (listing rows both.1)

-- all bytes of a range that is cut at all ends of the rows' ranges came where its first did
pub uncut_alike : (rows : List Row) (cuts : List ℕ) (p : SourceRange) → ((cut : ℕ) → Contains (flat_map cuts_of rows) cut → Contains cuts cut) → IsUncut cuts p → IsAlike rows p
uncut_alike rows cuts p kept u =
    let ends = flat_map cuts_of rows in
    let all : All (IsNotWithin p) ends = λ k d inside.
    let cut = get_or ends k d in
    let at = kept cut (k, inside, get_or_default ends k cut d inside) in
    subst (IsNotWithin p) at.2 (u.uncut at.0 cut at.1) in
    record {
      range = u.range;
      alike = λ o low high. ap (map (λ (r : Row). r.sink)) (listing p o low high rows (recursion_from_All (IsNotWithin p) ends all));
    }

-- ---- a range, piece by piece

-- the cuts up to one end by the beginning of a range, and the others aren't before its end
pub between_cuts : (cuts : List ℕ) (c from past i : ℕ) → from < past → past ≤ 2 ^ 32
    → ((k : ℕ) → k < i → get_or cuts k 0 ≤ place_on c from) → ((k : ℕ) → i ≤ k → k < length cuts → place_on c past ≤ get_or cuts k 0) → IsUncut cuts (range c from past)
between_cuts cuts c from past i some high passed coming = record {
  range = (some, high);
  uncut = λ k d inside. subst (IsNotWithin (range c from past)) (get_or_default cuts k 0 d inside) (by k inside (cases_lt k i));
} where
  by : (k : ℕ) → k < length cuts → (k < i) ⊎ (i ≤ k) → IsNotWithin (range c from past) (get_or cuts k 0)
  by k inside (inl less) = inl (passed k less)
  by k inside (inr more) = inr (coming k more inside)

-- the bytes so far, and those of one piece more
pub bytes_cut : (so_far whole : List SourceByte) (c from cut past : ℕ) → from ≤ cut → cut ≤ past → so_far ++ bytes_of (range c from past) ≡ whole
    → (so_far ++ bytes_of (range c from cut)) ++ bytes_of (range c cut past) ≡ whole
bytes_cut so_far whole c from cut past low high h =
    append_assoc so_far (bytes_of (range c from cut)) (bytes_of (range c cut past))
    ∙ ap (λ (bs : List SourceByte). so_far ++ bs) (sym (bytes-split c from cut past low high)) ∙ h
