-- The epochs of the first steps of a run are few where those of the run are.
use Rattle.std.proofs.Common.{◌≡◌, refl, arith, ℕ, ◌≤◌, Bool, true, false, Option, Some, None, IfSome, Result, Ok, Err}
use Rattle.std.specs.Prelude.{nat_lt, if◌then◌else◌}
use Rattle.std.specs.Int.{div_ceil}
use Rattle.std.proofs.lemmas.Bool.{ltb-false}
use Rattle.std.proofs.lemmas.Grind.{div_ceil_times}
use Rattle.std.proofs.lemmas.Nat.{mul-le}
use Rattle.log_model.specs.Logs.{Log, steps}
use Rattle.epoch_model.specs.ByLength.{epoch_count}
use Rattle.jet_refusal.specs.declared.refusal.Refusal.{Refusal}
use Rattle.jet_refusal.specs.declared.refusal.Refusal.TheVariants as refusal
use Rattle.jet_model.specs.Lengths.{epoch_length}
use Rattle.jet_model.specs.Answer.{told_check}
use Rattle.jet_model.proofs.Lengths.{few_of_length, untold_lengths-few}

fewer : (n m length : ℕ) → 1 ≤ length → n ≤ m → epoch_count n length ≤ epoch_count m length
fewer n m length some within =
    let ceil = div_ceil_times m length some in
    let q = epoch_count m length in
    few_of_length n length q some (omega arith) (omega (arith, ceil.0, within, mul-le (div_ceil m length) length q length (omega arith) (omega arith)))

abbrev checked_by : ℕ → Bool → Result (Unit {0}) Refusal
checked_by count many = if many then Err (refusal.TooManyEpochs count) else Ok tt

few_where_checked : (count : ℕ) → checked_by count (nat_lt 4096 count) ≡ Ok tt → count ≤ 4096
few_where_checked count e = by (nat_lt 4096 count) refl e where
  by : (b : Bool) → nat_lt 4096 count ≡ b → checked_by count b ≡ Ok tt → count ≤ 4096
  by true t e = let no : ⊥ = cc in absurd no
  by false t e = ltb-false 4096 count t

-- the length that is told, if one is
abbrev pub IsLength : Option ℕ → Type 0
IsLength told = IfSome told (λ n. (1 ≤ n) × (n ≤ 1099511627776))

pub few_of_beginning : (told : Option ℕ) (workers : ℕ) (log : Log) (n : ℕ) → IsLength told → 1 ≤ workers → workers ≤ 64 → told_check told log ≡ Ok tt → n ≤ steps log
    → epoch_count n (epoch_length told workers n) ≤ 4096
few_of_beginning None workers log n range some most check within = omega (arith, untold_lengths-few workers n, most)
few_of_beginning (Some e) workers log n range some most check within =
    omega (arith, fewer n (steps log) e range.0 within, few_where_checked (epoch_count (steps log) e) check)
