-- The workload's run has a recording, and so `bench` an answer.
use Rattle.std.proofs.Common.{◌≡◌, ℕ, zero, suc, ◌+◌, ◌/◌, ◌%◌, ◌^◌, ◌<◌, ◌≤◌, List, [], ◌∷◌, length, map, replicate, refl, arith, ap, sym, subst, Result}
use Rattle.std.specs.Prelude.{min, IsSome}
use Rattle.std.specs.List.{range_with_len}
use Rattle.elf_model.specs.declared.ImageKind.{ImageKind}
use Rattle.elf_model.specs.Image.{Image}
use Rattle.log_model.specs.Logs.{IsBytes}
use Rattle.replay_model.specs.Fits.{start_in_image}
use Rattle.record_model.specs.Recorded.{CanRecord, IsRecorded, input_of}
use Rattle.record_model.proofs.RecordedRuns.{a_recording}
use Rattle.order_gateway.specs.Guest.{guest_file}
use Rattle.order_gateway.specs.Input.{next_state, bytes_after, input_length, input}
use Rattle.order_gateway.specs.Workload.{workload}
use Rattle.order_gateway.specs.Answer.{bench_outcome}
use Rattle.order_gateway.specs.Laws.{HasAnswer}
use Rattle.order_gateway.proofs.Guests.{guest-image, window-holds_guest}

guest-bytes : IsBytes guest_file
unfolding guest_file
guest-bytes = omega arith

highest_byte : (n : ℕ) → n % 2 ^ 64 / 2 ^ 56 < 256
highest_byte n = omega arith

input-bytes : (n s : ℕ) → IsBytes (bytes_after n s)
input-bytes zero s = tt
input-bytes (suc n) s = (highest_byte _, input-bytes n (next_state s))

-- a read gets a piece at most
piece-small : (n : ℕ) → min 16777216 n < 2 ^ 31
piece-small n = omega arith

can_record : (seed steps : ℕ) → steps ≤ 2 ^ 40 → CanRecord (workload seed steps)
can_record seed steps few = record {
  program = guest-bytes;
  pages = (omega arith, omega arith);
  begins = subst (λ (r : Result Image ImageKind). IsSome (start_in_image r 4)) (sym guest-image) window-holds_guest;
  channels = omega arith;
  inputs = (input-bytes (input_length steps) seed, tt);
  pieces = λ channel. piece-small (length (input_of (input seed steps ∷ []) channel));
  steps = few;
}

-- the clock answers 0 each time
abbrev zero_clock : ℕ → ℕ
zero_clock k = 0

all_zero : (a n : ℕ) → map zero_clock (range_with_len a n) ≡ replicate n 0
all_zero a zero = refl
all_zero a (suc n) = ap (λ (xs : List ℕ). 0 ∷ xs) (all_zero (a + 1) n)

pub an_answer : HasAnswer
an_answer seed steps epoch_length few =
    let found = a_recording (workload seed steps) zero_clock (can_record seed steps few) (λ k. omega arith) in
    let recorded = subst (λ (xs : List ℕ). IsRecorded (workload seed steps) xs found.log) (all_zero 0 found.asked) found.is_recorded in
    (bench_outcome found.log epoch_length, record { log = found.log; is_log = record { asked = found.asked; recorded = recorded }; outcome = refl })
