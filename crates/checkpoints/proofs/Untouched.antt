-- The pages that a step doesn't write stay as they are.
use Rattle.std.proofs.Common.{◌≡◌, ℕ, suc, ◌+◌, ◌-◌, ◌*◌, ◌<◌, ◌≤◌, ◌⊎◌, inl, inr, Bool, true, false, List, length, get_or, drop, refl, arith, sym, ◌∙◌, subst, length-take, length-drop, get_or-take, get_or-drop}
use Rattle.std.specs.Prelude.{◌||◌, Some}
use Rattle.std.proofs.lemmas.Bool.Decides.{nat_tests}
use Rattle.std.proofs.lemmas.Bool.{cases_lt}
use Rattle.std.proofs.lemmas.List.{ext_get_or}
use Rattle.isa.specs.Machine.{State}
use Rattle.log_model.specs.Logs.{steps}
use Rattle.flow_model.specs.declared.StepSeen.{StepSeen}
use Rattle.flow_model.specs.Origins.{step_at}
use Rattle.replayer.specs.Jobs.{Job, IsJob, trace_of}
use Rattle.checkpoints.specs.declared.touched.Span.{Span}
use Rattle.checkpoints.specs.Pages.{page}
use Rattle.checkpoints.specs.Touched.{TouchedAt, written, is_touched, has_byte, AreMarked, AreOthersSame}
use Rattle.checkpoints.specs.Points.{window_at, AreOfWindow}
use Rattle.checkpoints.proofs.Writing.{Changes, changed_by, same_base, state_at}

-- a byte of a page that has none of the bytes is before or after them
outside : (first size place i : ℕ) → i < 4096 → has_byte first size place ≡ false → 0 < size → (place * 4096 + i < first) ⊎ (first + size ≤ place * 4096 + i)
outside first size place i h none some = by (cases_lt (place * 4096 + i) first) (cases_lt (place * 4096 + i) (first + size))
  where
    by : (place * 4096 + i < first) ⊎ (first ≤ place * 4096 + i) → (place * 4096 + i < first + size) ⊎ (first + size ≤ place * 4096 + i) → (place * 4096 + i < first) ⊎ (first + size ≤ place * 4096 + i)
    by (inl before) past = inl before
    by (inr above) (inr past) = inr past
    by (inr above) (inl below) = absurd (no above below)
      where
        no : first ≤ place * 4096 + i → place * 4096 + i < first + size → ⊥
        no above below = grind (arith, nat_tests)

-- such a page stays as it is
page_kept : (s t : State) (bytes : Span) → Changes s t bytes → (place : ℕ) → has_byte (bytes.place - s.base) bytes.size place ≡ false → page t.memory place ≡ page s.memory place
page_kept s t bytes changes place none =
    ext_get_or 0 (page t.memory place) (page s.memory place) size each
  where
    rest : List ℕ → List ℕ
    rest memory = drop (place * 4096) memory

    size : length (page t.memory place) ≡ length (page s.memory place)
    size = omega (arith, changes.size, length-take 4096 (drop (place * 4096) t.memory), length-drop (place * 4096) t.memory, length-take 4096 (drop (place * 4096) s.memory), length-drop (place * 4096) s.memory)

    byte_of : (memory : List ℕ) (i : ℕ) → i < 4096 → get_or (page memory place) i 0 ≡ get_or memory (place * 4096 + i) 0
    byte_of memory i h = get_or-take 4096 (drop (place * 4096) memory) i 0 h ∙ get_or-drop (place * 4096) memory i 0

    each : (i : ℕ) → i < length (page t.memory place) → get_or (page t.memory place) i 0 ≡ get_or (page s.memory place) i 0
    each i h =
        let within : i < 4096 = omega (arith, h, length-take 4096 (drop (place * 4096) t.memory)) in
        byte_of t.memory i within ∙ changes.kept (place * 4096 + i) (outside (bytes.place - s.base) bytes.size place i within none) ∙ sym (byte_of s.memory i within)

-- neither of two
no_either : (a b : Bool) → false ≡ (a || b) → (a ≡ false) × (b ≡ false)
no_either true b e = (cc, cc)
no_either false true e = (cc, cc)
no_either false false e = (refl, refl)

module _ (job : Job) (is : IsJob job) (t : ℕ) (step : StepSeen) (below : t < steps job.log) (at : step_at (trace_of job) t ≡ Some step) where
  -- pages that weren't touched before the step, and aren't by it, are as they were
  others_after : (before : List ℕ) (old new : TouchedAt) → AreOfWindow job old → AreMarked old.flags ((written step).place - old.base) (written step).size new.flags
      → AreOthersSame old.flags before (window_at job t) → AreOthersSame new.flags before (window_at job (suc t))
  others_after before old new are marked same place untouched =
      let bytes = written step in
      let changes = changed_by job t step is below at in
      let neither = no_either (is_touched old.flags place) (has_byte (bytes.place - old.base) bytes.size place) (sym untouched ∙ marked.each place) in
      let base : old.base ≡ (state_at job t).base = are.base ∙ sym (same_base job t is (omega arith)) in
      let none : has_byte (bytes.place - (state_at job t).base) bytes.size place ≡ false = subst (λ (b : ℕ). has_byte (bytes.place - b) bytes.size place ≡ false) base neither.1 in
      page_kept (state_at job t) (state_at job (suc t)) bytes changes place none ∙ same place neither.0

  -- the same where the bytes that it writes are noted
  pub others_noted : (before : List ℕ) (old new : TouchedAt) (bytes : Span) → bytes ≡ written step → AreOfWindow job old → AreMarked old.flags (bytes.place - old.base) bytes.size new.flags
      → AreOthersSame old.flags before (window_at job t) → AreOthersSame new.flags before (window_at job (t + 1))
  others_noted before old new bytes own are marked same =
      let next : suc t ≡ t + 1 = omega arith in
      subst (λ (k : ℕ). AreOthersSame new.flags before (window_at job k)) next
      (others_after before old new are (subst (λ (b : Span). AreMarked old.flags (b.place - old.base) b.size new.flags) own marked) same)
