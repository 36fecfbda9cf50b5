-- The answers of a clock that answers 0 each time, and the log of a run that asked it.
use Rattle.std.proofs.Common.{◌≡◌, ◌+◌, ◌-◌, ◌^◌, ◌<◌, ◌∷◌, [], ℕ, List, Bool, true, false, nat_lt, refl, sym, subst, replicate, Option, Some, None, if◌then◌else◌, arith}
use Rattle.std.proofs.lemmas.Grind.{common_steps}
use Rattle.std.proofs.lemmas.List.{replicate_more}
use Rattle.outer_io.specs.Tells.{Tells, Gains}
use Rattle.log_model.specs.Logs.{Log}
use Rattle.record_model.specs.Recorded.{Setting, IsRecorded}
use Rattle.call_record.specs.Captures.{IsCaptured}
use Rattle.order_gateway.specs.Workload.{workload}
use Rattle.order_gateway.specs.Answer.{IsWorkloadLog}
use Rattle.order_gateway.specs.declared.clock.StoppedClock.{StoppedClock}
use Rattle.order_gateway.specs.StoppedClock.{told_zeros}

abbrev told_if : Bool → ℕ → Option (List ℕ)
told_if counts n = if counts then Some (replicate n 0) else None

told_one_more : (counted counts : Bool) (n : ℕ) → (counts ≡ true → counted ≡ true)
    → Tells (told_if counted n) (told_if counts (n + 1)) (Gains (0 ∷ []))
told_one_more counted false n before = tt
told_one_more true true n before = sym (replicate_more n 0)
told_one_more false true n before = let f = before refl in cc

abbrev told : ℕ → Option (List ℕ)
told n = told_if (nat_lt n (2 ^ 64 - 1)) n

-- one more answer
pub told_next : (n : ℕ) → Tells (told n) (told (n + 1)) (Gains (0 ∷ []))
told_next n = told_one_more (nat_lt n (2 ^ 64 - 1)) (nat_lt (n + 1) (2 ^ 64 - 1)) n (λ more. grind (arith, common_steps, more))

-- one that isn't counted
pub told_last : (n : ℕ) → n ≡ 2 ^ 64 - 1 → Tells (told n) (told n) (Gains (0 ∷ []))
told_last n last = rw last tt

gained_zeros : (counts : Bool) (n : ℕ) (answers : List ℕ) → counts ≡ true
    → Tells (Some []) (told_if counts n) (Gains answers) → answers ≡ replicate n 0
gained_zeros true n answers e told = sym told
gained_zeros false n answers e told = cc

-- the log of a captured run, whose clock can still count its answers
pub captured-is_log : (seed steps : ℕ) (setting : Setting) (clock : StoppedClock) (log : Log) → setting ≡ workload seed steps
    → clock.asked < 2 ^ 64 - 1 → IsCaptured setting (Some []) (told_zeros clock) log → IsWorkloadLog seed steps log
captured-is_log seed steps setting clock log same counts is =
    let within : nat_lt clock.asked (2 ^ 64 - 1) ≡ true = grind (arith, common_steps, counts) in
    let zeros = gained_zeros (nat_lt clock.asked (2 ^ 64 - 1)) clock.asked is.answers within is.gained in
    record {
      asked = clock.asked;
      recorded = subst (λ (s : Setting). IsRecorded s (replicate clock.asked 0) log) same
          (subst (λ (answers : List ℕ). IsRecorded setting answers log) zeros is.recorded);
    }
