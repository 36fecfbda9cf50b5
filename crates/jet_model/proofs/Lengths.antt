-- How many epochs a run has where the words tell no length. Crates above cite these lemmas.
use Rattle.std.proofs.Common.{◌≡◌, ap, refl, arith, ℕ, ◌≤◌, ◌<◌, ◌+◌, ◌-◌, ◌*◌, min, length, inl, inr, Option, Some, None, Ok, Err, Bool}
use Rattle.std.specs.Prelude.{if◌then◌else◌}
use Rattle.std.specs.Int.{div_ceil}
use Rattle.std.proofs.Math.Nat.{add-mul}
use Rattle.std.proofs.lemmas.Bool.{le-ltb, cases_lt}
use Rattle.std.proofs.lemmas.Grind.{div_ceil_times}
use Rattle.std.proofs.lemmas.List.FromFn.{length-map-range_with_len}
use Rattle.std.proofs.lemmas.Nat.{mul-le}
use Rattle.log_model.specs.Logs.{Log, steps}
use Rattle.flow_model.specs.declared.Rule.{Rule}
use Rattle.flow_model.specs.declared.Rule.TheVariants.{Copy, Keep, Compute, Index}
use Rattle.epoch_model.specs.ByLength.{epoch_count, cut_at, cut_times_from, lengths_of_last, shrinking_times, shared_length}
use Rattle.jet_refusal.specs.declared.refusal.Refusal.TheVariants as refusal
use Rattle.jet_model.specs.Lengths.{lengths_of_first, epoch_length, shrinking_epochs, times_of_moves, times_of_computed, cuts_by}
use Rattle.jet_model.specs.Answer.{epochs_check, told_check}

-- what fits q times with less than one left over is no more than q
at_most : (d q length : ℕ) → d * length < q * length + length → d ≤ q
at_most d q length h = elim (cases_lt q d) [
  | inl more ↦ absurd (omega (arith, h, mul-le (q + 1) length d length (omega (arith, more)) (omega arith), add-mul q 1 length))
  | inr few ↦ few
]

-- a run of no more than q times the length
pub few_of_length : (n length q : ℕ) → 1 ≤ length → 1 ≤ q → n ≤ q * length → epoch_count n length ≤ q
few_of_length n length q some one within =
    let ceil = div_ceil_times n length some in
    let few = at_most (div_ceil n length) q length (omega (arith, ceil.1, within)) in
    omega (arith, few, one)

pub untold_lengths-few : (workers n : ℕ) → epoch_count n (epoch_length None workers n) ≤ workers + 2
untold_lengths-few workers n =
    let lengths = workers + 2 in
    let quarters = 4 * lengths - 1 in
    let quarter = div_ceil n quarters in
    let ceil = div_ceil_times n quarters (omega arith) in
    let length = epoch_length None workers n in
    let within : n ≤ lengths * (4 * quarter) = omega (arith, ceil.0, mul-le quarter quarters quarter (4 * lengths) (omega arith) (omega arith)) in
    few_of_length n length lengths (omega arith) (omega arith)
    (omega (arith, within, mul-le lengths (4 * quarter) lengths length (omega arith) (omega arith)))

moves-few : (workers n : ℕ) → 1 ≤ workers → length (times_of_moves workers n) ≤ workers
unfolding shrinking_times
moves-few workers n some =
    let epochs = shrinking_epochs workers n in
    let by = shared_length epochs n in
    omega (arith, length-map-range_with_len (λ k. cut_at n by (lengths_of_last epochs - lengths_of_last (epochs - k))) 1 epochs, some)

computed-few : (workers n : ℕ) → 1 ≤ workers → length (times_of_computed workers n) ≤ workers
unfolding cut_times_from
computed-few workers n some =
    let by = epoch_length None workers n in
    let count = epoch_count n by in
    let first = min lengths_of_first count in
    omega (arith, length-map-range_with_len (cut_at n by) first (count + 1 - first), untold_lengths-few workers n, some)

pub untold-few : (rule : Rule) (workers n : ℕ) → 1 ≤ workers → length (cuts_by None rule workers n) ≤ workers
untold-few Copy = moves-few
untold-few Keep = moves-few
untold-few Compute = computed-few
untold-few Index = computed-few

pub untold-checked : (told : Option ℕ) (workers : ℕ) (log : Log) → workers ≤ 64
    → epochs_check (epoch_length told workers (steps log)) log ≡ told_check told log
untold-checked (Some epoch) workers log most = refl
untold-checked None workers log most =
    let count = epoch_count (steps log) (epoch_length None workers (steps log)) in
    ap (λ (b : Bool). if b then Err (refusal.TooManyEpochs count) else Ok tt)
    (le-ltb 4096 count (omega (arith, untold_lengths-few workers (steps log), most)))
