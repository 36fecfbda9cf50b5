-- Calls that read on the run's channels alone.
use Rattle.std.proofs.Common.{◌≡◌, ℕ, zero, suc, ◌^◌, ◌<◌, ◌≤◌, ◌⊎◌, ◌↔◌, true, eqb, List, [], ◌∷◌, length, get_or, ℤ, refl, sym, ap, subst, ◌∙◌, arith, inl, inr}
use Rattle.std.specs.Prelude.{nat_lt, if◌then◌else◌, slice_index}
use Rattle.std.specs.List.{AllByRecursion}
use Rattle.std.proofs.lemmas.Bool.{cases_lt, lt-ltb, ltb-true, eq-eqb, ne_eqb}
use Rattle.std.proofs.lemmas.List.{nil_from_length, length-append}
use Rattle.log_model.specs.declared.Version.TheVariants.{Two}
use Rattle.log_model.specs.declared.CallRecord.{CallRecord}
use Rattle.log_model.specs.declared.CallRecord.TheVariants.{Read}
use Rattle.log_model.specs.Moved.{received, received_by}
use Rattle.log_model.specs.Logs.{Log, log_text, CanHold}
use Rattle.log_model.proofs.Texts.{can_hold}
use Rattle.replay_log.specs.Logs.{IsKept}

below_kept : (inputs k : ℕ) (bytes : List ℕ) → k < inputs → (c : ℕ) → inputs ≤ c → (if eqb k c then bytes else []) ≡ []
below_kept inputs k bytes below c past = rw (ne_eqb k c (λ e. omega (arith, e, below, past))) refl

kept_below : (inputs k : ℕ) (bytes : List ℕ) → 1 ≤ length bytes → ((c : ℕ) → inputs ≤ c → (if eqb k c then bytes else []) ≡ []) → (k < inputs) ⊎ (inputs ≤ k) → nat_lt k inputs ≡ true
kept_below inputs k bytes some kept (inl below) = lt-ltb k inputs below
kept_below inputs k bytes some kept (inr past) =
    let none : bytes ≡ [] = rw (eq-eqb k k refl) at (kept k past) in
    absurd (omega (arith, some, ap length none))

-- a read that got bytes is on one of the channels
pub read_kept : (inputs : ℕ) (r : CallRecord) (at : ℕ) (args : List ℕ) (outcome : ℤ) (bytes : List ℕ) → r ≡ Read at args outcome bytes → 1 ≤ length bytes → (nat_lt (slice_index args 0) inputs ≡ true) ↔ IsKept inputs r
read_kept inputs r at args outcome bytes e some =
    let k = slice_index args 0 in
    subst (λ (r : CallRecord). (nat_lt (slice_index args 0) inputs ≡ true) ↔ IsKept inputs r) (sym e)
    (λ b. below_kept inputs k bytes (ltb-true k inputs b), λ kept. kept_below inputs k bytes some kept (cases_lt k inputs))

-- nothing was read on a channel where no call read on it
none_each : (c : ℕ) (rs : List CallRecord) → received c rs ≡ [] → (i : ℕ) (d : CallRecord) → i < length rs → received_by c (get_or rs i d) ≡ []
none_each c [] e i d below = absurd (omega (arith, below))
none_each c (r ∷ rs) e zero d below = nil_from_length (received_by c r) (omega (arith, ap length e, length-append (received_by c r) (received c rs)))
none_each c (r ∷ rs) e (suc i) d below = none_each c rs (nil_from_length (received c rs) (omega (arith, ap length e, length-append (received_by c r) (received c rs)))) i d (omega (arith, below))

pub held_each : (log : Log) → CanHold Two log → (i : ℕ) (r : CallRecord) → i < length log.records → r ≡ get_or log.records i r → IsKept log.inputs r
held_each log held i r below here c past = ap (received_by c) here ∙ none_each c log.records ((held c).1 past) i r below

none_all : (inputs : ℕ) (rs : List CallRecord) → AllByRecursion (IsKept inputs) rs → (c : ℕ) → inputs ≤ c → received c rs ≡ []
none_all inputs [] all c past = refl
none_all inputs (r ∷ rs) all c past = nil_from_length (received c (r ∷ rs)) (omega (arith, ap length (all.0 c past), ap length (none_all inputs rs all.1 c past), length-append (received_by c r) (received c rs)))

pub kept_held : (log : Log) → AllByRecursion (IsKept log.inputs) log.records → length (log_text Two log) < 2 ^ 32 → CanHold Two log
kept_held log all short = can_hold log (none_all log.inputs log.records all) short
