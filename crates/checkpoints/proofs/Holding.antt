-- How many pages checkpoints hold, and what one more checkpoint adds.
use Rattle.std.proofs.Common.{◌≡◌, ℕ, zero, suc, ◌+◌, ◌-◌, ◌<◌, ◌≤◌, ◌⊎◌, inl, inr, Bool, List, [], ◌∷◌, ◌++◌, length, map, take, get_or, refl, arith, ap, sym, ◌∙◌, subst, length-append}
use Rattle.std.specs.List.{All}
use Rattle.std.proofs.lemmas.Bool.{cases_lt}
use Rattle.std.proofs.lemmas.List.{get_or_append_left, get_or_push, get_or_default, map_push, length-map}
use Rattle.replayer.specs.Jobs.{Job}
use Rattle.replayer.specs.Saved.{RestOfCursor, rest_of, put_together}
use Rattle.checkpoints.specs.Pages.{changed, IsHeld, ArePagesOf, IsExtended}
use Rattle.checkpoints.specs.Touched.{AreOthersSame, AreOthersHeld}
use Rattle.checkpoints.specs.Points.{CheckpointAt, CheckpointsAt, time_of, window_at, last_window, changed_after, held_at, last_numbers, IsCheckpoint, AreCheckpoints}
use Rattle.checkpoints.proofs.Splitting.{changed_none, pages_later}

-- ---- one of the checkpoints

-- the number of an epoch is that of a checkpoint
pub index_below : (job : Job) (points : List CheckpointAt) (at : CheckpointsAt) (k : ℕ) → record { job = job; times = map time_of points } ≡ at → k < length at.times → k < length points
index_below job points at k e below =
    let times : length (map time_of points) ≡ length at.times = ap (λ (p : CheckpointsAt). length p.times) e in
    omega (arith, below, times, length-map points time_of)

pub checkpoint_at : (job : Job) (pages : List (List ℕ)) (points : List CheckpointAt) (k : ℕ) (point there : CheckpointAt)
    → AreCheckpoints job pages points → k < length points → there ≡ get_or points k there → point ≡ there → IsCheckpoint job pages point
checkpoint_at job pages points k point there are below is e = subst (IsCheckpoint job pages) (sym is ∙ sym e) (are.each k there below)

-- the numbers of a window's pages are such
pub numbers_below : (pages : List (List ℕ)) (numbers window : List ℕ) → ArePagesOf pages numbers window → All (λ number. number < length pages) numbers
numbers_below pages numbers window are k d h = subst (λ (n : ℕ). n < length pages) (sym (get_or_default numbers k d 0 h)) (are.each k h).below

-- the bytes of a checkpoint's pages, and all else of it, are the cursor that was saved
module _ (job : Job) (pages : List (List ℕ)) (point : CheckpointAt) (is : IsCheckpoint job pages point) (bytes : List ℕ) (joined : (window : List ℕ) → ArePagesOf pages point.numbers window → bytes ≡ window) where
  pub size_again : length bytes ≡ point.rest.machine.size
  size_again = ap length (joined is.saved.machine.memory is.paged) ∙ sym (ap (λ (r : RestOfCursor). r.machine.size) is.rest)

  pub saved_again : put_together bytes point.rest ≡ is.saved
  saved_again =
      ap (λ (r : RestOfCursor). put_together bytes r) is.rest
      ∙ ap (λ (b : List ℕ). put_together b (rest_of is.saved)) (joined is.saved.machine.memory is.paged)

-- ---- the last checkpoint

pub one_longer : (before after : List CheckpointAt) (point : CheckpointAt) → after ≡ before ++ point ∷ [] → length after ≡ length before + 1
one_longer before after point e = omega (arith, ap length e, length-append before (point ∷ []))

pub last_window_is : (job : Job) (before ts : List ℕ) (n : ℕ) → n < length ts → last_window job before (take (suc n) ts) ≡ window_at job (get_or ts n 0)
last_window_is job before [] n h = absurd (omega (arith, h))
last_window_is job before (t ∷ ts) zero h = refl
last_window_is job before (t ∷ ts) (suc n) h = last_window_is job (window_at job t) ts n (omega (arith, h))

held_more : (job : Job) (before ts : List ℕ) (t : ℕ) → changed_after job before (ts ++ t ∷ []) ≡ changed_after job before ts + changed (last_window job before ts) (window_at job t)
held_more job before [] t = omega arith
held_more job before (s ∷ ts) t = omega (arith, held_more job (window_at job s) ts t)

-- no window is before the first, so that all its pages are new
held_first : (job : Job) (ts : List ℕ) → held_at job ts ≡ changed_after job [] ts
held_first job [] = refl
held_first job (t ∷ ts) = ap (λ (n : ℕ). n + changed_after job (window_at job t) ts) (sym (changed_none (window_at job t)))

-- the window of a checkpoint is that at its time
pub memory_is : (job : Job) (pages : List (List ℕ)) (point : CheckpointAt) (is : IsCheckpoint job pages point) → is.saved.machine.memory ≡ window_at job (time_of point)
memory_is job pages point is =
    let window : is.saved.machine.memory ≡ window_at job is.saved.counters.time = ap (λ m. m.state.memory) is.of_job.here in
    let time : is.saved.counters.time ≡ time_of point = sym (ap (λ (r : RestOfCursor). r.counters.time) is.rest) in
    window ∙ ap (window_at job) time

pub last_paged : (job : Job) (pages : List (List ℕ)) (numbers before : List ℕ) (points : List CheckpointAt) → All (IsCheckpoint job pages) points → ArePagesOf pages numbers before
    → ArePagesOf pages (last_numbers numbers points) (last_window job before (map time_of points))
last_paged job pages numbers before [] each are = are
last_paged job pages numbers before (point ∷ points) each are =
    let here = each zero point (omega arith) in
    let later : All (IsCheckpoint job pages) points = λ k d h. each (suc k) d (omega (arith, h)) in
    last_paged job pages point.numbers (window_at job (time_of point)) points later (subst (ArePagesOf pages point.numbers) (memory_is job pages point here) here.paged)

pub none_paged : (pages : List (List ℕ)) → ArePagesOf pages [] []
none_paged pages = record { count = refl; each = λ k h. absurd (omega (arith, h)) }

-- pages that weren't touched since the last checkpoint are held by its numbers
pub others_held : (job : Job) (pages : List (List ℕ)) (points : List CheckpointAt) (flags : List Bool) (window : List ℕ) → AreCheckpoints job pages points → AreOthersSame flags (last_window job [] (map time_of points)) window
    → AreOthersHeld flags pages (last_numbers [] points) window
others_held job pages points flags window are same place untouched below =
    let last = last_paged job pages [] [] points are.each (none_paged pages) in
    subst (IsHeld pages (get_or (last_numbers [] points) place 0)) (sym (same place untouched)) (last.each place below)

-- the last checkpoint's numbers, as a slice has it
pub last_is : (numbers : List ℕ) (points : List CheckpointAt) (d : CheckpointAt) → 0 < length points → last_numbers numbers points ≡ (get_or points (length points - 1) d).numbers
last_is numbers [] d h = absurd (omega (arith, h))
last_is numbers (p ∷ []) d h = refl
last_is numbers (p ∷ q ∷ points) d h =
    let more = last_is p.numbers (q ∷ points) d (omega arith) in
    let place : suc (length (q ∷ points) - 1) ≡ length (p ∷ q ∷ points) - 1 = omega arith in
    more ∙ ap (λ (k : ℕ). (get_or (p ∷ q ∷ points) k d).numbers) place

-- ---- one more checkpoint

pub last_is_new : (numbers : List ℕ) (points : List CheckpointAt) (point : CheckpointAt) → last_numbers numbers (points ++ point ∷ []) ≡ point.numbers
last_is_new numbers [] point = refl
last_is_new numbers (p ∷ points) point = last_is_new p.numbers points point

module _ (job : Job) (before after : List (List ℕ)) (points : List CheckpointAt) (are : AreCheckpoints job before points) (more : IsExtended before after) where
  later : (point : CheckpointAt) → IsCheckpoint job before point → IsCheckpoint job after point
  later point is = record { saved = is.saved; of_job = is.of_job; rest = is.rest; paged = pages_later before after point.numbers is.saved.machine.memory more is.paged }

  module _ (point : CheckpointAt) (is : IsCheckpoint job after point) where
    one : (k : ℕ) (d : CheckpointAt) → k < length (points ++ point ∷ []) → (k < length points) ⊎ (length points ≤ k) → IsCheckpoint job after (get_or (points ++ point ∷ []) k d)
    one k d h (inl below) = rw (get_or_append_left points (point ∷ []) d k below) (later (get_or points k d) (are.each k d below))
    one k d h (inr past) =
        let here : length points ≡ k = omega (arith, h, past, length-append points (point ∷ [])) in
        rw (get_or_push points point d k here) is

    pub with_one : ((window : List ℕ) → ArePagesOf before (last_numbers [] points) window → length after ≡ length before + changed window (window_at job (time_of point)))
        → AreCheckpoints job after (points ++ point ∷ [])
    with_one count =
        let window = last_window job [] (map time_of points) in
        let last = last_paged job before [] [] points are.each (none_paged before) in
        let all : length after ≡ changed_after job [] (map time_of points ++ time_of point ∷ []) = omega (arith, count window last, are.count, held_first job (map time_of points), held_more job [] (map time_of points) (time_of point)) in
        record {
          each = λ k d h. one k d h (cases_lt k (length points));
          count = all ∙ ap (changed_after job []) (sym (map_push time_of points point)) ∙ sym (held_first job (map time_of (points ++ point ∷ [])));
        }
