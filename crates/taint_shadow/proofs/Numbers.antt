-- The numbers of labels. Crates above cite these lemmas.
use Rattle.std.proofs.Common.{◌≡◌, ◌<◌, ◌≤◌, ◌+◌, ◌-◌, ◌*◌, ◌/◌, ◌%◌, ◌^◌, nat_lt, ℕ, refl, arith, ap, ap₂, true, false, ◌∙◌}
use Rattle.flow_model.specs.declared.Loc.{Loc}
use Rattle.source_runs.specs.declared.runs.SourceRun.{SourceRun}
use Rattle.flow_model.specs.declared.Loc.TheVariants.{Reg, Mem}
use Rattle.flow_model.specs.Ranges.{IsLocation}
use Rattle.taint_shadow.specs.declared.labels.LabelKind.TheVariants.{Node, Start, Run}
use Rattle.taint_shadow.specs.Labels.{FitsLabel, kind_of, node_label, start_label}

byte_kind : (p : ℕ) → p < 2 ^ 32 → kind_of (start_label (Mem p)) ≡ Start (Mem p)
byte_kind p h =
    let high : nat_lt (2 ^ 32 + p) (2 ^ 32) ≡ false = grind arith in
    let low : nat_lt (2 ^ 32 + p) (2 ^ 33) ≡ true = grind arith in
    let is : 2 ^ 32 + p - 2 ^ 32 ≡ p = omega arith in
    rw (high, low) (ap (λ (q : ℕ). Start (Mem q)) is)

pub lane_kind : (r i : ℕ) → r < 256 → i < 256 → kind_of (start_label (Reg r i)) ≡ Start (Reg r i)
lane_kind r i h k =
    let n = 2 ^ 33 + 256 * r + i in
    let above : nat_lt n (2 ^ 32) ≡ false = grind arith in
    let higher : nat_lt n (2 ^ 33) ≡ false = grind arith in
    let below : nat_lt n (2 ^ 62) ≡ true = grind arith in
    let number : n / 256 % 256 ≡ r = omega arith in
    let lane : n % 256 ≡ i = omega arith in
    rw (above, higher, below) (ap₂ (λ (q j : ℕ). Start (Reg q j)) number lane)

pub start_kind : (l : Loc) → IsLocation l → kind_of (start_label l) ≡ Start l
start_kind (Mem p) here = byte_kind p here
start_kind (Reg r i) here = lane_kind r i (omega (arith, here.0)) (omega (arith, here.1))

-- the channel and the offsets of a run are the parts of its number
pub run_kind : (r : SourceRun) (n : ℕ) → FitsLabel r → n ≡ 2 ^ 62 + r.channel * 2 ^ 58 + r.first * 2 ^ 29 + r.last → kind_of (record { number = n }) ≡ Run r
run_kind r n fits is =
    let above : nat_lt n (2 ^ 32) ≡ false = grind arith in
    let higher : nat_lt n (2 ^ 33) ≡ false = grind arith in
    let highest : nat_lt n (2 ^ 62) ≡ false = grind arith in
    let channel : n / 2 ^ 58 % 2 ^ 4 ≡ r.channel = omega (arith, fits.channel, fits.first, fits.last, is) in
    let first : n / 2 ^ 29 % 2 ^ 29 ≡ r.first = omega (arith, fits.first, fits.last, is) in
    let last : n % 2 ^ 29 ≡ r.last = omega (arith, fits.last, is) in
    rw (above, higher, highest)
    (ap (λ (c : ℕ). Run (record { channel = c; first = n / 2 ^ 29 % 2 ^ 29; last = n % 2 ^ 29 })) channel
    ∙ ap₂ (λ (a b : ℕ). Run (record { channel = r.channel; first = a; last = b })) first last)

pub node_kind : (n : ℕ) → n < 2 ^ 32 → kind_of (node_label n) ≡ Node n
node_kind n h = let low : nat_lt n (2 ^ 32) ≡ true = grind arith in rw low refl

-- no number lies below the first
pub first_number : (n : ℕ) → 0 ≤ n
first_number n = omega arith
