-- Where a run stands, by its parts.
use Rattle.std.proofs.Common.{◌≡◌, ℕ, ◌<◌, ◌≤◌, ◌⊎◌, inl, inr, true, List, length, arith, ap, ◌∙◌}
use Rattle.std.specs.Prelude.{replicate}
use Rattle.std.specs.Int.{div_ceil}
use Rattle.std.proofs.lemmas.List.{length-replicate, get_or-replicate, get_or_past}
use Rattle.std.proofs.lemmas.Bool.{cases_lt}
use Rattle.isa.specs.Machine.{State}
use Rattle.replayer.specs.Jobs.{Job}
use Rattle.replayer.specs.Saved.{RestOfCursor, IsOfJob, put_together}
use Rattle.checkpoints.specs.Pages.{page_count}
use Rattle.checkpoints.specs.Touched.{TouchedAt, is_touched, AreAllTouched}
use Rattle.checkpoints.specs.Points.{window_at, AreOfWindow}
use Rattle.checkpoints.proofs.Writing.{state_at}

set_by : (n place : ℕ) → (place < n) ⊎ (n ≤ place) → is_touched (replicate n true) place ≡ true
set_by n place (inl below) = get_or-replicate n place true true below
set_by n place (inr past) = get_or_past (replicate n true) place true (omega (arith, past, length-replicate n true))

-- flags that are all set
pub all_set : (touched : TouchedAt) (base n : ℕ) → touched ≡ record { base = base; flags = replicate n true } → AreAllTouched touched.flags
all_set touched base n e place = ap (λ (x : TouchedAt). is_touched x.flags place) e ∙ set_by n place (cases_lt place n)

module _ (job : Job) (t : ℕ) (bytes : List ℕ) (rest : RestOfCursor) (of_job : IsOfJob job (put_together bytes rest)) (time : rest.counters.time ≡ t) where
  state_is : (put_together bytes rest).machine ≡ state_at job t
  state_is = ap (λ m. m.state) of_job.here ∙ ap (state_at job) time

  -- the bytes are the window at that time
  pub window_is : bytes ≡ window_at job t
  window_is = ap (λ (s : State). s.memory) state_is

  -- the flags of all pages of the window at the beginning
  pub all_fit : (base : ℕ) (touched : TouchedAt) → t ≡ 0 → base ≡ rest.machine.base → touched ≡ record { base = base; flags = replicate (div_ceil (length bytes) 4096) true } → AreOfWindow job touched
  all_fit base touched first b e =
      let started : (put_together bytes rest).machine ≡ job.start = state_is ∙ ap (state_at job) first in
      record {
        base = ap (λ (x : TouchedAt). x.base) e ∙ b ∙ ap (λ (s : State). s.base) started;
        count = ap (λ (x : TouchedAt). length x.flags) e ∙ length-replicate (div_ceil (length bytes) 4096) true ∙ ap (λ (s : State). page_count s.memory) started;
      }
