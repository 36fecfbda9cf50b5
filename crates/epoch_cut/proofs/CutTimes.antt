-- Cut times: how many they are, which the k-th is, and that they are a cutting; and the same from the k-th on.
use Rattle.std.proofs.Common.{◌≡◌, slice_get, ℕ, zero, suc, ◌+◌, ◌-◌, ◌*◌, ◌<◌, ◌≤◌, min, max, Some, List, [], ◌∷◌, length, map, refl, ap, ◌∙◌, subst, arith}
use Rattle.std.specs.Int.{div_ceil}
use Rattle.std.specs.List.{range_with_len}
use Rattle.std.proofs.Math.Nat.{add-mul, zero-div, zero-mod}
use Rattle.std.proofs.lemmas.Grind.{div_ceil_times}
use Rattle.std.proofs.lemmas.List.FromFn.{length-map-range_with_len, get_or-map-range_with_len}
use Rattle.std.proofs.lemmas.Option.{slice_get-get_or}
use Rattle.epoch_model.specs.Cutting.{RisesTo, IsCutting}
use Rattle.epoch_model.specs.ByLength.{epoch_count, cut_at, cut_times, cut_times_from}
use Rattle.epoch_cut.specs.CutLaws.{CutTimesAreCutting, CutTimesAreCounted, CutTimesAreMultiples, LongFirstTimesAreCutting}

pub cut_times_counted : CutTimesAreCounted
unfolding cut_times
cut_times_counted steps by = length-map-range_with_len (cut_at steps by) 1 (epoch_count steps by)

pub cut_times_multiples : CutTimesAreMultiples
unfolding cut_times
cut_times_multiples steps by zero h = ap Some (omega arith)
cut_times_multiples steps by (suc k) h =
    slice_get-get_or (cut_times steps by) k 0 (omega (arith, cut_times_counted steps by))
    ∙ ap Some (get_or-map-range_with_len (cut_at steps by) 1 (epoch_count steps by) k (suc k) 0 (omega arith) (omega arith))

-- a cut before the end is below the next one
cut_below_next : (steps by j : ℕ) → 1 ≤ by → j * by < steps → cut_at steps by j < cut_at steps by (j + 1)
cut_below_next steps by j some below = omega (arith, add-mul j 1 by)

-- the cuts after the j-th rise from it to the end, where the last of them alone is the end
rises : (steps by : ℕ) → 1 ≤ by → (j n : ℕ) → (j + n) * by < steps → steps ≤ (j + suc n) * by → RisesTo (cut_at steps by j) (map (cut_at steps by) (range_with_len (j + 1) (suc n))) steps
rises steps by some j zero below above =
    (cut_below_next steps by j some (omega (arith, add-mul j 0 by)), omega (arith, add-mul j 1 by))
rises steps by some j (suc n) below above = (
  cut_below_next steps by j some (omega (arith, add-mul j (suc n) by)),
  rises steps by some (j + 1) n (omega (arith, add-mul j (suc n) by, add-mul (j + 1) n by, add-mul j 1 by, add-mul 1 n by)) (omega (arith, add-mul j (suc (suc n)) by, add-mul (j + 1) (suc n) by, add-mul j 1 by, add-mul 1 (suc n) by)),
)

-- the same of all cuts, as many as the length goes into the steps, rounded up
all_rise : (n by q : ℕ) → 1 ≤ by → suc n ≤ q * by → q * by < suc n + by → RisesTo 0 (map (cut_at (suc n) by) (range_with_len 1 (max 1 q))) (suc n)
all_rise n by zero some most least = absurd (omega arith)
all_rise n by (suc q) some most least =
    let count : max 1 (suc q) ≡ suc q = omega arith in
    let start : cut_at (suc n) by 0 ≡ 0 = omega arith in
    let from_start = rises (suc n) by some 0 q (omega (arith, add-mul 0 q by, add-mul q 1 by)) (omega (arith, add-mul 0 (suc q) by)) in
    rw count (subst (λ s. RisesTo s (map (cut_at (suc n) by) (range_with_len 1 (suc q))) (suc n)) start from_start)

no_steps : (by : ℕ) → 1 ≤ by → epoch_count 0 by ≡ 1
no_steps by some = rw (zero-div by, zero-mod by) refl

pub cut_times_cutting : CutTimesAreCutting
unfolding cut_times
cut_times_cutting zero by some = rw (no_steps by some) (ap (λ t. t ∷ []) (omega arith))
cut_times_cutting (suc n) by some =
    let ceil = div_ceil_times (suc n) by some in
    all_rise n by (div_ceil (suc n) by) some ceil.0 ceil.1

-- ---- from the k-th on

pub from_first : (steps by : ℕ) → cut_times_from 1 steps by ≡ cut_times steps by
unfolding cut_times cut_times_from
from_first steps by =
    let count : epoch_count steps by + 1 - 1 ≡ epoch_count steps by = omega arith in
    ap (λ n. map (cut_at steps by) (range_with_len 1 n)) count

pub from-counted : (k steps by : ℕ) → length (cut_times_from k steps by) ≡ epoch_count steps by + 1 - k
unfolding cut_times_from
from-counted k steps by = length-map-range_with_len (cut_at steps by) k (epoch_count steps by + 1 - k)

pub from-multiples : (k steps by j : ℕ) → j < epoch_count steps by + 1 - k
    → slice_get (0 ∷ cut_times_from k steps by) (suc j) ≡ Some (cut_at steps by (k + j))
unfolding cut_times_from
from-multiples k steps by j h =
    slice_get-get_or (cut_times_from k steps by) j 0 (omega (arith, from-counted k steps by, h))
    ∙ ap Some (get_or-map-range_with_len (cut_at steps by) k (epoch_count steps by + 1 - k) j (k + j) 0 h (omega arith))

rises_from_0 : (s : ℕ) (cuts : List ℕ) (n : ℕ) → 1 ≤ length cuts → RisesTo s cuts n → RisesTo 0 cuts n
rises_from_0 s [] n some r = absurd (omega (arith, some))
rises_from_0 s (c ∷ cuts) n some r = (omega (arith, r.0), r.1)

some_length : (n by q : ℕ) → suc n ≤ q * by → 1 ≤ q
some_length n by zero most = absurd (omega (arith, most))
some_length n by (suc q) most = omega arith

from-cutting : (j steps by : ℕ) → 1 ≤ by → suc j ≤ epoch_count steps by → IsCutting steps (cut_times_from (suc j) steps by)
unfolding cut_times_from
from-cutting j zero by some within =
    let first : j ≡ 0 = omega (arith, within, no_steps by some) in
    let count : epoch_count 0 by + 1 - 1 ≡ 1 = omega (arith, no_steps by some) in
    rw (first, count) (ap (λ t. t ∷ []) (omega arith))
from-cutting j (suc n) by some within =
    let steps = suc n in
    let count = epoch_count steps by in
    let left = count - suc j in
    let ceil = div_ceil_times steps by some in
    let q = div_ceil steps by in
    let is_q : count ≡ q = omega (arith, some_length n by q ceil.0) in
    let all : j + suc left ≡ count = omega (arith, within) in
    let below : (j + left) * by < steps = omega (arith, ap (λ m. m * by) all, ap (λ m. m * by) is_q, ceil.1, add-mul j left by, add-mul j (suc left) by, add-mul left 1 by) in
    let above : steps ≤ (j + suc left) * by = omega (arith, ap (λ m. m * by) all, ap (λ m. m * by) is_q, ceil.0) in
    let next : j + 1 ≡ suc j = omega arith in
    let many : suc left ≡ count + 1 - (j + 1) = omega (arith, within) in
    let r = rises steps by some j left below above in
    let rising : RisesTo (cut_at steps by j) (map (cut_at steps by) (range_with_len (suc j) (count + 1 - suc j))) steps = rw (← next, ← many) r in
    rises_from_0 (cut_at steps by j) (map (cut_at steps by) (range_with_len (suc j) (count + 1 - suc j))) steps
    (omega (arith, length-map-range_with_len (cut_at steps by) (suc j) (count + 1 - suc j), within)) rising

from_some : (k steps by : ℕ) → 1 ≤ k → 1 ≤ by → k ≤ epoch_count steps by → IsCutting steps (cut_times_from k steps by)
from_some zero steps by one some within = absurd (omega (arith, one))
from_some (suc j) steps by one some within = from-cutting j steps by some within

pub long_first_times_cutting : LongFirstTimesAreCutting
long_first_times_cutting lengths steps by one some =
    from_some (min lengths (epoch_count steps by)) steps by (omega (arith, one)) some (omega arith)
