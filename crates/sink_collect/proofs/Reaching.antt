-- What a row adds to ranges of source bytes, one of its ranges after another; and what all rows do.
use Rattle.std.proofs.Common.{◌≡◌, ℕ, suc, ◌+◌, ◌-◌, ◌<◌, ◌≤◌, ◌≢◌, ◌⊎◌, inl, inr, List, [], ◌∷◌, ◌++◌, length, map, take, drop, get_or, Bool, true, false, cond, refl, ap, ap₂, sym, ◌∙◌, subst, arith, append-nil, take-append-drop}
use Rattle.std.specs.Prelude.{All, ◌||◌, ◌&&◌, nat_lt, nat_le}
use Rattle.std.specs.List.{filter, flat_map}
use Rattle.std.specs.Ordering.{eq_by_cmp}
use Rattle.std.specs.declared.cmp.Ordering.TheVariants.{Less, Equal}
use Rattle.std.proofs.Math.ListN.{set}
use Rattle.std.proofs.lemmas.Bool.{cases_lt}
use Rattle.std.proofs.lemmas.Bool.Decides.{nat_tests}
use Rattle.std.proofs.lemmas.List.{map-append, length-map, length-set, take_more, drop_more, get_or_default, get_or-map, get_or-set_same, get_or-set_other, same_lists}
use Rattle.std.proofs.lemmas.List.Concat.{flat_map-append}
use Rattle.std.proofs.lemmas.List.Elements.{filter-append}
use Rattle.std.proofs.lemmas.List.Folds.{list_any-append}
use Rattle.std.proofs.lemmas.List.FromFn.{get_or-map-range_with_len}
use Rattle.flow_model.specs.declared.SinkPoint.{SinkPoint}
use Rattle.flow_model.specs.declared.SourceByte.{SourceByte}
use Rattle.flow_model.specs.Orders.{source_cmp}
use Rattle.lists.specs.Sets.{has, Ascends}
use Rattle.lists.proofs.Tests.{same-tests}
use Rattle.report_model.specs.Rows.{Row}
use Rattle.report_model.specs.Influence.{Reach, reached, turned}
use Rattle.source_ranges.specs.declared.SourceRange.{SourceRange}
use Rattle.source_ranges.specs.Kept.{IsRange}
use Rattle.source_ranges.specs.Ranges.{byte_on, bytes_of}
use Rattle.source_ranges.proofs.Kept.{bytes-pushed, length-bytes}
use Rattle.sink_collect.specs.Places.{start_of, end_of, first_of, IsAlike}
use Rattle.sink_collect.specs.Reaching.{Stretch, reach_of, reaches_in, stretches, one_if, with_sink_if, with_sink, with_row}
use Rattle.sink_collect.proofs.Order.{only_once}
use Rattle.sink_collect.proofs.Cuts.{IsIn, in_has, has_in}

never : {A : Type 0} → Less ≡ Equal → A
never e = cc

-- ---- one range of a row

-- s is added to the stretch with the test false, and with it true
add_none : (s : SinkPoint) (r : Stretch) → with_sink_if false s r ≡ r
add_none s r = let make : List SinkPoint → Stretch = λ sinks. record { range = r.range; sinks = sinks } in ap make (append-nil r.sinks)

abbrev pub is_from : ℕ → ℕ → ℕ → Bool
is_from first past k = nat_le first k && nat_lt k past

from_none : (first k : ℕ) → is_from first first k ≡ false
from_none first k = grind (arith, nat_tests)

not_yet : (first past : ℕ) → is_from first past past ≡ false
not_yet first past = grind (arith, nat_tests)

at_last : (first k : ℕ) → first ≤ k → is_from first (k + 1) k ≡ true
at_last first k low = grind (arith, nat_tests)

elsewhere : (first past k : ℕ) → k ≢ past → is_from first past k ≡ is_from first (past + 1) k
elsewhere first past k ne = grind (arith, nat_tests)

from_true : (first past k : ℕ) → is_from first past k ≡ true → (first ≤ k) × (k < past)
from_true first past k h = (grind (arith, nat_tests), grind (arith, nat_tests))

true_from : (first past k : ℕ) → first ≤ k → k < past → is_from first past k ≡ true
true_from first past k low high = grind (arith, nat_tests)

-- s was added to the stretches at the places from one up to another
pub record AreRaised (s : SinkPoint) (first past : ℕ) (old now : List Stretch) : Type 0 where
  pub long : length now ≡ length old
  pub each : (k : ℕ) (d : Stretch) → k < length old → get_or now k d ≡ with_sink_if (is_from first past k) s (get_or old k d)

pub raised_none : (s : SinkPoint) (first : ℕ) (old : List Stretch) → AreRaised s first first old old
raised_none s first old = record {
  long = refl;
  each = λ k d inside. sym (ap (λ (b : Bool). with_sink_if b s (get_or old k d)) (from_none first k) ∙ add_none s (get_or old k d));
}

module _ (s : SinkPoint) (first past : ℕ) (old now : List Stretch) (low : first ≤ past) (inside : past < length now) (x e : Stretch)
    (is : x ≡ record { range = (get_or now past e).range; sinks = (get_or now past e).sinks ++ s ∷ [] }) (so_far : AreRaised s first past old now) where
  here : (d : Stretch) → get_or (set now past x) past d ≡ with_sink_if (is_from first (past + 1) past) s (get_or old past d)
  here d =
      let add : Stretch → Stretch = λ r. record { range = r.range; sinks = r.sinks ++ s ∷ [] } in
      let was : get_or now past e ≡ get_or old past d =
      get_or_default now past e d inside ∙ so_far.each past d (omega (arith, so_far.long))
      ∙ ap (λ (b : Bool). with_sink_if b s (get_or old past d)) (not_yet first past) ∙ add_none s (get_or old past d) in
      get_or-set_same now past x d inside ∙ is ∙ ap add was
      ∙ sym (ap (λ (b : Bool). with_sink_if b s (get_or old past d)) (at_last first past low))

  there : (k : ℕ) (d : Stretch) → k ≢ past → k < length old → get_or (set now past x) k d ≡ with_sink_if (is_from first (past + 1) k) s (get_or old k d)
  there k d ne within =
      get_or-set_other now past k x d ne ∙ so_far.each k d within ∙ ap (λ (b : Bool). with_sink_if b s (get_or old k d)) (elsewhere first past k ne)

  pub raised_more : AreRaised s first (past + 1) old (set now past x)
  raised_more = record {
    long = length-set now past x ∙ so_far.long;
    each = λ k d within. by k d within (cases_lt k past) (cases_lt past k);
  } where
    by : (k : ℕ) (d : Stretch) → k < length old → (k < past) ⊎ (past ≤ k) → (past < k) ⊎ (k ≤ past) → get_or (set now past x) k d ≡ with_sink_if (is_from first (past + 1) k) s (get_or old k d)
    by k d within (inl less) h = let ne : k ≢ past = omega arith in there k d ne within
    by k d within (inr not_less) (inl more) = let ne : k ≢ past = omega arith in there k d ne within
    by k d within (inr not_less) (inr not_more) =
        let same : past ≡ k = omega arith in
        subst (λ (j : ℕ). get_or (set now past x) j d ≡ with_sink_if (is_from first (past + 1) j) s (get_or old j d)) same (here d)

-- the places where a range's bytes begin stretches are those from one up to another
module _ (s : SinkPoint) (old now : List Stretch) (starts : List ℕ) (g : SourceRange) (first past i : ℕ)
    (same : map (λ r. start_of r.range) old ≡ starts) (fits : (k : ℕ) (d : Stretch) → k < length old → IsRange (get_or old k d).range) (range : IsRange g)
    (first_bound : first ≤ length starts)
    (first_before : (k : ℕ) → k < first → get_or starts k 0 < start_of g) (first_after : (k : ℕ) → first ≤ k → k < length starts → start_of g ≤ get_or starts k 0)
    (past_before : (k : ℕ) → k < past → get_or starts k 0 < end_of g) (past_after : (k : ℕ) → past ≤ k → k < length starts → end_of g ≤ get_or starts k 0)
    (ended : past ≤ i) (no_more : first ≤ past → i ≤ past) where
  as_many : length starts ≡ length old
  as_many = ap length (sym same) ∙ length-map old (λ (r : Stretch). start_of r.range)

  in_order : first ≤ past
  in_order = by (cases_lt past first) where
    by : (past < first) ⊎ (first ≤ past) → first ≤ past
    by (inl less) = absurd (omega (arith, first_before past less, past_after past (omega arith) (omega arith), range.0))
    by (inr more) = more

  start_at : (k : ℕ) (d : Stretch) → k < length old → get_or starts k 0 ≡ start_of (get_or old k d).range
  start_at k d inside = ap (λ (xs : List ℕ). get_or xs k 0) (sym same) ∙ get_or-map (λ (r : Stretch). start_of r.range) old k d 0 inside

  found : (k : ℕ) (d : Stretch) → k < length old → is_from first i k ≡ true → has source_cmp (first_of (get_or old k d).range) (bytes_of g) ≡ true
  found k d inside h =
      let r = (get_or old k d).range in
      let own = fits k d inside in
      let t = from_true first i k h in
      let low : start_of g ≤ start_of r = omega (arith, first_after k t.0 (omega (arith, as_many)), start_at k d inside) in
      let high : start_of r < end_of g = omega (arith, past_before k (omega (arith, t.1, no_more in_order)), start_at k d inside) in
      in_has (first_of r) g (within r own low high)
    where
      within : (r : SourceRange) → IsRange r → start_of g ≤ start_of r → start_of r < end_of g → IsIn (first_of r) g
      within r own low high =
          let some = own.0 in
          let small = own.1 in
          let few = range.1 in
          let many = range.0 in
          let c : r.channel ≡ g.channel = omega arith in
          record { channel = c; low = omega arith; high = omega arith }

  listed : (k : ℕ) (d : Stretch) → k < length old → has source_cmp (first_of (get_or old k d).range) (bytes_of g) ≡ true → is_from first i k ≡ true
  listed k d inside h =
      let r = (get_or old k d).range in
      let t = has_in (first_of r) g h in
      let e : r.channel ≡ g.channel = t.channel in
      let start = start_at k d inside in
      let low : start_of g ≤ start_of r = omega (arith, e, t.low) in
      let high : start_of r < end_of g = omega (arith, e, t.high) in
      true_from first i k (not_before (cases_lt k first) start low) (not_after (cases_lt k i) start high)
    where
      not_before : (k < first) ⊎ (first ≤ k) → get_or starts k 0 ≡ start_of (get_or old k d).range → start_of g ≤ start_of (get_or old k d).range → first ≤ k
      not_before (inl less) start low = absurd (omega (arith, first_before k less, start, low))
      not_before (inr more) start low = more

      not_after : (k < i) ⊎ (i ≤ k) → get_or starts k 0 ≡ start_of (get_or old k d).range → start_of (get_or old k d).range < end_of g → k < i
      not_after (inl less) start high = less
      not_after (inr more) start high = absurd (omega (arith, past_after k (omega arith) (omega (arith, as_many)), start, high))

  pub raised_is : AreRaised s first i old now → now ≡ map (with_sink s (bytes_of g)) old
  raised_is raised =
      let add = with_sink s (bytes_of g) in
      same_lists now (map add old) (raised.long ∙ sym (length-map old add))
      (λ k d inside.
      let within : k < length old = omega (arith, raised.long) in
      raised.each k d within
      ∙ ap (λ (b : Bool). with_sink_if b s (get_or old k d)) (same-tests (is_from first i k) (has source_cmp (first_of (get_or old k d).range) (bytes_of g)) (found k d within) (listed k d within))
      ∙ sym (get_or-map add old k d d within))

-- ---- one range more

pub with_none : (s : SinkPoint) (rs : List Stretch) → rs ≡ map (with_sink s []) rs
with_none s [] = refl
with_none s (r ∷ rs) = ap₂ (λ (x : Stretch) (xs : List Stretch). x ∷ xs) (sym (add_none s r)) (with_none s rs)

module _ (s : SinkPoint) (xs ys zs : List SourceByte) (ascends : Ascends source_cmp (xs ++ (ys ++ zs))) where
  both : (r : Stretch) → with_sink s ys (with_sink s xs r) ≡ with_sink s (xs ++ ys) r
  both r =
      let b = first_of r.range in
      by (has source_cmp b xs) refl (has source_cmp b ys) refl
      ∙ sym (ap (λ (t : Bool). with_sink_if t s r) (list_any-append (eq_by_cmp source_cmp b) xs ys))
    where
      make : List SinkPoint → Stretch
      make sinks = record { range = r.range; sinks = sinks }

      by : (t : Bool) → has source_cmp (first_of r.range) xs ≡ t → (u : Bool) → has source_cmp (first_of r.range) ys ≡ u → with_sink_if u s (with_sink_if t s r) ≡ with_sink_if (t || u) s r
      by true e true f = never (only_once xs (ys ++ zs) (first_of r.range) ascends e (list_any-append (eq_by_cmp source_cmp (first_of r.range)) ys zs ∙ ap (λ (v : Bool). v || has source_cmp (first_of r.range) zs) f))
      by true e false f = add_none s (with_sink_if true s r)
      by false e u f = ap (with_sink_if u s) (add_none s r)

  pub more_bytes : (rs : List Stretch) → map (with_sink s ys) (map (with_sink s xs) rs) ≡ map (with_sink s (xs ++ ys)) rs
  more_bytes [] = refl
  more_bytes (r ∷ rs) = ap₂ (λ (x : Stretch) (ss : List Stretch). x ∷ ss) (both r) (more_bytes rs)

pub one_more_range : (s : SinkPoint) (items : List SourceRange) (k : ℕ) (d : SourceRange) (old now new : List Stretch) → k < length items → Ascends source_cmp (flat_map bytes_of items)
    → now ≡ map (with_sink s (flat_map bytes_of (take k items))) old → new ≡ map (with_sink s (bytes_of (get_or items k d))) now
    → new ≡ map (with_sink s (flat_map bytes_of (take (k + 1) items))) old
one_more_range s items k d old now new inside ascends so_far is =
    let g = get_or items k d in
    let front = flat_map bytes_of (take k items) in
    let rest = flat_map bytes_of (drop (k + 1) items) in
    let parts : flat_map bytes_of items ≡ front ++ (bytes_of g ++ rest) =
    ap (flat_map bytes_of) (sym (take-append-drop k items) ∙ ap (λ (rs : List SourceRange). take k items ++ rs) (drop_more items k d inside))
    ∙ flat_map-append bytes_of (take k items) (g ∷ drop (k + 1) items) in
    is ∙ ap (map (with_sink s (bytes_of g))) so_far
    ∙ more_bytes s front (bytes_of g) rest (subst (Ascends source_cmp) parts ascends) old
    ∙ ap (λ (bs : List SourceByte). map (with_sink s bs) old) (sym (ap (flat_map bytes_of) (take_more items k d inside) ∙ bytes-pushed (take k items) g))

pub starts_kept : (s : SinkPoint) (bytes : List SourceByte) (rs : List Stretch) → map (λ r. start_of r.range) (map (with_sink s bytes) rs) ≡ map (λ r. start_of r.range) rs
starts_kept s bytes [] = refl
starts_kept s bytes (r ∷ rs) = ap (λ (xs : List ℕ). start_of r.range ∷ xs) (starts_kept s bytes rs)

pub fits_kept : (s : SinkPoint) (bytes : List SourceByte) (rs : List Stretch) → All (λ r. IsRange r.range) rs → All (λ r. IsRange r.range) (map (with_sink s bytes) rs)
fits_kept s bytes rs fits k d inside =
    let add = with_sink s bytes in
    let within : k < length rs = omega (arith, length-map rs add) in
    subst (λ (r : Stretch). IsRange r.range) (sym (get_or-map add rs k d d within)) (fits k d within)

-- ---- one row more

filtered_one : (b : Bool) (r : Row) → map (λ (x : Row). x.sink) (cond b (r ∷ []) []) ≡ one_if b r.sink
filtered_one true r = refl
filtered_one false r = refl

one_more_row : (rs : List Row) (r : Row) (b : SourceByte) → reached rs b ++ one_if (has source_cmp b r.sources) r.sink ≡ reached (rs ++ r ∷ []) b
one_more_row rs r b =
    let lists : Row → Bool = λ x. has source_cmp b x.sources in
    sym (ap (map (λ (x : Row). x.sink)) (filter-append lists rs (r ∷ []))
    ∙ map-append (λ (x : Row). x.sink) (filter lists rs) (filter lists (r ∷ []))
    ∙ ap (λ (ss : List SinkPoint). reached rs b ++ ss) (filtered_one (lists r) r))

pub with_rows : (rows : List Row) (r : Row) (ranges : List SourceRange) → map (with_row r) (stretches rows ranges) ≡ stretches (rows ++ r ∷ []) ranges
with_rows rows r [] = refl
with_rows rows r (g ∷ gs) =
    let make : List SinkPoint → Stretch = λ sinks. record { range = g; sinks = sinks } in
    ap₂ (λ (x : Stretch) (xs : List Stretch). x ∷ xs) (ap make (one_more_row rows r (first_of g))) (with_rows rows r gs)

pub starts_stretched : (rows : List Row) (ranges : List SourceRange) → map (λ r. start_of r.range) (stretches rows ranges) ≡ map start_of ranges
starts_stretched rows [] = refl
starts_stretched rows (g ∷ gs) = ap (λ (xs : List ℕ). start_of g ∷ xs) (starts_stretched rows gs)

pub fits_stretched : (rows : List Row) (ranges : List SourceRange) → All IsRange ranges → All (λ r. IsRange r.range) (stretches rows ranges)
fits_stretched rows ranges fits k d inside =
    let make : SourceRange → Stretch = λ r. record { range = r; sinks = reached rows (first_of r) } in
    let none : SourceRange = record { channel = 0; from = 0; past = 0 } in
    let within : k < length ranges = omega (arith, length-map ranges make) in
    subst (λ (r : Stretch). IsRange r.range) (sym (get_or-map make ranges k none d within)) (fits k none within)

-- ---- all rows

same_maps : (f g : SourceByte → Reach) (bs : List SourceByte) → ((k : ℕ) (d : SourceByte) → k < length bs → f (get_or bs k d) ≡ g (get_or bs k d)) → map f bs ≡ map g bs
same_maps f g [] h = refl
same_maps f g (b ∷ bs) h = ap₂ (λ (x : Reach) (xs : List Reach). x ∷ xs) (h 0 b (omega arith)) (same_maps f g bs (λ k d inside. h (suc k) d (omega arith)))

one_spread : (rows : List Row) (g : SourceRange) → IsAlike rows g → map (reach_of (reached rows (first_of g))) (bytes_of g) ≡ turned rows (bytes_of g)
one_spread rows g a =
    same_maps (reach_of (reached rows (first_of g))) (λ b. reach_of (reached rows b) b) (bytes_of g)
    (λ k d inside.
    let within : k < g.past - g.from = omega (arith, length-bytes g) in
    let b = get_or (bytes_of g) k d in
    let is : b ≡ byte_on g.channel (g.from + k) = get_or-map-range_with_len (byte_on g.channel) g.from (g.past - g.from) k (g.from + k) d within refl in
    let low : g.from ≤ g.from + k = omega arith in
    let high : g.from + k < g.past = omega arith in
    ap (λ (sinks : List SinkPoint). reach_of sinks b) (sym (ap (reached rows) is ∙ a.alike (g.from + k) low high)))

-- ranges of bytes that came where the first did have the reaches of all their bytes
pub spread : (rows : List Row) (ranges : List SourceRange) → All (IsAlike rows) ranges → flat_map reaches_in (stretches rows ranges) ≡ turned rows (flat_map bytes_of ranges)
spread rows [] a = refl
spread rows (g ∷ gs) a =
    ap₂ (λ (xs ys : List Reach). xs ++ ys) (one_spread rows g (a 0 g (omega arith))) (spread rows gs (λ k d inside. a (suc k) d (omega arith)))
    ∙ sym (map-append (λ b. reach_of (reached rows b) b) (bytes_of g) (flat_map bytes_of gs))
