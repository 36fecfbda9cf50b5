-- A taker of checkpoints, step after step.
use Rattle.std.proofs.Common.{◌≡◌, ◌≢◌, ℕ, suc, ◌+◌, ◌-◌, ◌<◌, ◌≤◌, ◌⊎◌, inl, inr, Bool, true, false, List, [], ◌∷◌, ◌++◌, length, take, get_or, Some, refl, arith, ap, sym, ◌∙◌, subst}
use Rattle.std.specs.Prelude.{replicate, ◌||◌}
use Rattle.std.proofs.lemmas.Bool.{cases_lt}
use Rattle.std.proofs.lemmas.List.{take_more, length-replicate, map_push}
use Rattle.isa.specs.declared.Instr.{Instr}
use Rattle.rv_decode.specs.declared.accesses.Load.{Load}
use Rattle.rv_decode.specs.declared.accesses.Store.{Store}
use Rattle.rv_decode.specs.Accesses.{Access, Loads, Stores, Neither, access_of, load_in, store_in, load_of, store_of}
use Rattle.log_model.specs.Logs.{steps}
use Rattle.flow_model.specs.declared.StepSeen.{StepSeen}
use Rattle.epoch_model.specs.Cutting.{IsCutting}
use Rattle.replay_run.specs.Runs.{RunAt}
use Rattle.replayer.specs.Jobs.{Job, IsJob}
use Rattle.replayer.specs.Saved.{RestOfCursor, IsOfJob, put_together}
use Rattle.replayer.specs.Nexts.{seen_at}
use Rattle.replayer.specs.Watching.{IsMadeOf, IsToldInRow}
use Rattle.checkpoints.specs.declared.touched.Span.{Span}
use Rattle.checkpoints.specs.Pages.{page, changed, ArePagesOf, IsExtended}
use Rattle.checkpoints.specs.Touched.{TouchedAt, span, size_stored, stored_size, written, is_touched, has_byte, AreMarked, AreAllTouched, AreOthersSame, AreOthersHeld}
use Rattle.checkpoints.specs.Points.{CheckpointAt, time_of, window_at, last_window, last_numbers, beginnings, IsCheckpoint, AreOfWindow}
use Rattle.checkpoints.specs.Taking.{TakenAt, AreTaken, TakerAt, times_taken, quiet_of, IsTakenBefore, IsTakenTo, HasSeen}
use Rattle.checkpoints.proofs.Holding.{last_window_is, memory_is, others_held, with_one}
use Rattle.checkpoints.proofs.Rising.{begins_later, begins_within}
use Rattle.checkpoints.proofs.Standing.{window_is}
use Rattle.checkpoints.proofs.Untouched.{others_noted}

-- ---- one more checkpoint

module _ (job : Job) (t : ℕ) (bytes : List ℕ) (rest : RestOfCursor) (of_job : IsOfJob job (put_together bytes rest)) (time : rest.counters.time ≡ t) (size : length bytes ≡ rest.machine.size)
    (pages new : List (List ℕ)) (points : List CheckpointAt) (before numbers times : List ℕ) (flags : List Bool) where
  held : AreTaken job times (record { pages = pages; points = points }) → before ≡ last_numbers [] points → AreOthersSame flags (last_window job [] times) (window_at job t) → AreOthersHeld flags pages before bytes
  held are numbers_are others =
      let same = subst (λ (ts : List ℕ). AreOthersSame flags (last_window job [] ts) (window_at job t)) (sym are.at) others in
      subst (AreOthersHeld flags pages before) (sym (window_is job t bytes rest of_job time))
      (subst (λ (ns : List ℕ). AreOthersHeld flags pages ns (window_at job t)) (sym numbers_are) (others_held job pages points flags (window_at job t) are.are same))

  pub one_taken : AreTaken job times (record { pages = pages; points = points }) → before ≡ last_numbers [] points → AreOthersSame flags (last_window job [] times) (window_at job t) → IsExtended pages new
      → (AreOthersHeld flags pages before bytes → ArePagesOf new numbers bytes)
      → ((window : List ℕ) → AreOthersHeld flags pages before bytes → ArePagesOf pages before window → length new ≡ length pages + changed window bytes)
      → AreTaken job (times ++ t ∷ []) (record { pages = new; points = points ++ record { numbers = numbers; rest = rest } ∷ [] })
  one_taken are numbers_are others more paged count =
      let point : CheckpointAt = record { numbers = numbers; rest = rest } in
      let untouched = held are numbers_are others in
      let whole : ℕ → RestOfCursor = λ n. record { machine = record (rest.machine) { size = n }; counters = rest.counters } in
      let is : IsCheckpoint job new point = record { saved = put_together bytes rest; of_job = of_job; rest = ap whole (sym size); paged = paged untouched } in
      let window = memory_is job new point is in
      let counted : (was : List ℕ) → ArePagesOf pages (last_numbers [] points) was → length new ≡ length pages + changed was (window_at job (time_of point)) = λ was pages_are. count was untouched (subst (λ (ns : List ℕ). ArePagesOf pages ns was) (sym numbers_are) pages_are) ∙ ap (λ (w : List ℕ). length pages + changed was w) window in
      record {
        are = with_one job pages new points are.are more point is counted;
        at = map_push time_of points point ∙ ap (λ (ts : List ℕ). ts ++ time_of point ∷ []) are.at ∙ ap (λ (n : ℕ). times ++ n ∷ []) time;
      }

-- ---- a taker where a run stands

-- at the beginning none is taken
pub none_before : (job : Job) (t : ℕ) (w : TakerAt) → w.taken ≡ record { pages = []; points = [] } → w.next ≡ 0 → AreOfWindow job w.touched → AreAllTouched w.touched.flags → IsTakenBefore job t w
none_before job t w none next flags all =
    let zero : length w.taken.points ≡ 0 = ap (λ (x : TakenAt). length x.points) none in
    let times : times_taken w ≡ [] = ap (λ (n : ℕ). take n (0 ∷ w.cuts)) zero in
    record {
      taken = subst (λ (ts : List ℕ). AreTaken job ts w.taken) (sym times) (subst (AreTaken job []) (sym none) (record { are = record { each = λ k d h. absurd (omega (arith, h)); count = refl }; at = refl }));
      few = omega arith;
      next = next ∙ ap (λ (n : ℕ). get_or (0 ∷ w.cuts) n 0) (sym zero);
      flags = flags;
      others = λ place untouched. absurd (not_both (sym (all place) ∙ untouched));
    }
  where
    not_both : true ≡ false → ⊥
    not_both e = cc

module _ (job : Job) (t : ℕ) (w : TakerAt) (before : IsTakenBefore job t w) where
  -- the one that was due is taken
  pub one_due : (new : TakenAt) (touched : TouchedAt) (next : ℕ) (is_out : Bool) → IsCutting (steps job.log) w.cuts → t ≡ w.next → length w.taken.points < length w.cuts → length new.points ≡ length w.taken.points + 1
      → AreTaken job (times_taken w ++ t ∷ []) new → touched ≡ record { base = w.touched.base; flags = replicate (length w.touched.flags) false } → next ≡ get_or w.cuts (length w.taken.points) 0
      → IsTakenTo job t (record { cuts = w.cuts; next = next; touched = touched; taken = new; is_out = is_out })
  one_due new touched next is_out cutting now below number taken clear next_is =
      let k = length w.taken.points in
      let times : List ℕ = 0 ∷ w.cuts in
      let due : t ≡ get_or times k 0 = now ∙ before.next in
      let within : k < length times = omega (arith, below) in
      let count : length new.points ≡ suc k = omega (arith, number) in
      let more : times_taken w ++ t ∷ [] ≡ take (length new.points) times = ap (λ (x : ℕ). take k times ++ x ∷ []) due ∙ sym (take_more times k 0 within) ∙ ap (λ (n : ℕ). take n times) (sym number) in
      let last : last_window job [] (take (length new.points) times) ≡ window_at job t = ap (λ (n : ℕ). last_window job [] (take n times)) count ∙ last_window_is job [] times k within ∙ ap (window_at job) (sym due) in
      record {
        before = record {
          taken = subst (λ (ts : List ℕ). AreTaken job ts new) more taken;
          few = omega (arith, count, below);
          next = next_is ∙ ap (λ (n : ℕ). get_or times n 0) (sym count);
          flags = record {
            base = ap (λ (x : TouchedAt). x.base) clear ∙ before.flags.base;
            count = ap (λ (x : TouchedAt). length x.flags) clear ∙ length-replicate (length w.touched.flags) false ∙ before.flags.count;
          };
          others = λ place untouched. ap (λ (window : List ℕ). page window place) (sym last);
        };
        later = λ h. let rises = begins_later (steps job.log) w.cuts cutting k (omega (arith, h, count)) in omega (arith, rises, due, next_is);
      }

-- ---- a step

module _ (job : Job) (is : IsJob job) (s : StepSeen) (after : RunAt) (made : IsMadeOf job s after) (w : TakerAt) (to : IsTakenTo job s.number w) (touched : TouchedAt) (bytes : Span) (own : bytes ≡ written s)
    (base : touched.base ≡ w.touched.base) (marked : AreMarked w.touched.flags (bytes.place - w.touched.base) bytes.size touched.flags) where
  -- the bytes that it wrote are noted
  pub step_noted : IsTakenBefore job (s.number + 1) (record w { touched = touched })
  step_noted =
      let time = made.time in
      let within = made.stands.within in
      let flags = to.before.flags in
      record {
        taken = to.before.taken;
        few = to.before.few;
        next = to.before.next;
        flags = record { base = base ∙ flags.base; count = marked.count ∙ flags.count };
        others = others_noted job is s.number s (omega arith) made.step (last_window job [] (times_taken w)) w.touched touched bytes own flags marked to.before.others;
      }

  -- and no checkpoint is due
  pub not_due : after.moment.time ≢ w.next → IsTakenTo job (s.number + 1) (record w { touched = touched })
  not_due other = record { before = step_noted; later = λ h. let later = to.later h in let time = made.time in omega (arith, later, differs) }
    where
      differs : s.number + 1 ≢ w.next
      differs e = other (made.time ∙ e)

-- ---- steps in a row

-- where the bytes that an instruction stores are noted, and no checkpoint is due, the taker was told of its step
pub told_in_row : (w : TakerAt) (touched : TouchedAt) (instr : Instr) (place : ℕ) → touched.base ≡ w.touched.base → AreMarked w.touched.flags (place - w.touched.base) (stored_size instr) touched.flags
    → IsToldInRow HasSeen quiet_of w instr place (record w { touched = touched })
told_in_row w touched instr place base marked was job until t after small soon before fits made seen =
    let time = made.time in
    let other : after.moment.time ≢ w.next = λ e. no (sym time ∙ e) in (
      record {
        cuts = seen.cuts;
        taken = λ is cutting out.
            not_due job is (seen_at t (record { instr = instr; place = place })) after made w (seen.taken is cutting out) touched (span place (stored_size instr)) refl base marked other;
      },
      soon,
    )
  where
    no : t + 1 ≡ w.next → ⊥
    no e = omega arith

-- a load stores nothing, and a store what it stores
pub load_stores : (i : Instr) (l : Load) → load_of i ≡ Some l → stored_size i ≡ 0
load_stores i l e = by (access_of i) e
  where
    by : (a : Access) → load_in a ≡ Some l → size_stored a ≡ 0
    by (Loads x) e = refl
    by (Stores x) e = cc
    by Neither e = refl

pub store_stores : (i : Instr) (s : Store) → store_of i ≡ Some s → stored_size i ≡ s.size
store_stores i s e = by (access_of i) e
  where
    by : (a : Access) → store_in a ≡ Some s → size_stored a ≡ s.size
    by (Loads x) e = cc
    by (Stores x) e = cc
    by Neither e = cc

-- no bytes mark no page
none_marked : (flags : List Bool) (first n : ℕ) → n ≡ 0 → AreMarked flags first n flags
none_marked flags first n none = record {
  count = refl;
  each = λ place. sym (ap (λ (k : ℕ). is_touched flags place || has_byte first k place) none ∙ or_false (is_touched flags place));
}
  where
    or_false : (b : Bool) → (b || false) ≡ b
    or_false true = refl
    or_false false = refl

-- so a taker has nothing to note of what stores nothing
pub nothing_to_note : (w : TakerAt) (instr : Instr) (place : ℕ) → stored_size instr ≡ 0 → IsToldInRow HasSeen quiet_of w instr place w
nothing_to_note w instr place none = told_in_row w w.touched instr place refl (none_marked w.touched.flags (place - w.touched.base) (stored_size instr) none)

-- ---- the whole run

pub all_taken : (job : Job) (w : TakerAt) → IsCutting (steps job.log) w.cuts → IsTakenTo job (steps job.log) w → times_taken w ≡ beginnings w.cuts
all_taken job w cutting to = by (cases_lt (length w.taken.points) (length w.cuts))
  where
    by : (length w.taken.points < length w.cuts) ⊎ (length w.cuts ≤ length w.taken.points) → times_taken w ≡ beginnings w.cuts
    by (inl below) =
        let later = to.later below in
        let within = begins_within (steps job.log) w.cuts cutting (length w.taken.points) below in
        absurd (omega (arith, later, within, to.before.next))
    by (inr past) =
        let all : length w.taken.points ≡ length w.cuts = omega (arith, past, to.before.few) in
        ap (λ (n : ℕ). take n (0 ∷ w.cuts)) all
