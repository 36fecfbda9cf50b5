-- A run has few cuts.
use Rattle.std.proofs.Common.{◌≤◌, ℕ, arith}
use Rattle.std.specs.Int.{div_ceil}
use Rattle.std.proofs.lemmas.Grind.{div_ceil_times}
use Rattle.std.proofs.lemmas.Nat.{mul-le}
use Rattle.epoch_model.specs.ByLength.{epoch_count}
use Rattle.jet_model.proofs.Lengths.{few_of_length}

-- by a length of which so many make the run
pub few_cuts : (n count length : ℕ) → 1 ≤ count → count ≤ 4096 → div_ceil n count ≤ length → 1 ≤ length → epoch_count n length ≤ 4096
few_cuts n count length some most enough long =
    let ceil = div_ceil_times n count some in
    let few = few_of_length n length count long some (omega (arith, ceil.0, mul-le count (div_ceil n count) count length (omega arith) enough)) in
    omega (arith, few, most)
