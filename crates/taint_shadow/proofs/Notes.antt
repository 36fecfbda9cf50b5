-- What is noted of registers, at the start and later.
use Rattle.std.proofs.Common.{◌≡◌, ◌<◌, ◌==◌, ℕ, List, length, refl, subst, arith, ap, sym, ◌∙◌, Bool, true, false, if◌then◌else◌}
use Rattle.std.specs.Prelude.{slice_set, slice_index_or}
use Rattle.std.proofs.lemmas.Bool.{eqb-true, eqb-false, both_ways}
use Rattle.flow_model.specs.declared.Loc.{Loc}
use Rattle.flow_model.specs.declared.Loc.TheVariants.{Reg, Mem}
use Rattle.flow_model.specs.Ranges.{IsLocation}
use Rattle.taint_shadow.specs.declared.lanes.Lanes.{Lanes}
use Rattle.taint_shadow.specs.declared.places.Places.{Places}
use Rattle.taint_shadow.specs.Labels.{nothing_label}
use Rattle.taint_shadow.specs.Lanes.{lane_at, alike, clean}
use Rattle.taint_shadow.specs.Marks.{has_mark, AllButFirst, SetsMark}
use Rattle.taint_shadow.specs.Notes.{AreNoted, AreAlike}
use Rattle.taint_shadow.specs.Places.{kept, AreKept, origin_lane, with_lanes}
use Rattle.taint_shadow.proofs.Grown.{cell_same, cell_other}
use Rattle.taint_shadow.proofs.Meaning.{alike_at}

-- where all registers but x0 are noted as labelled
pub noted_start : (marks : ℕ) (xs : List Lanes) → AllButFirst marks → AreNoted marks xs
noted_start marks xs all = record { first = all.first; at = λ r h k e. absurd (both_ways (has_mark marks r) e (all.other r h k)) }

-- where the lanes of a register are set, and noted as labelled, or are clean and noted so
pub noted_set : (old new d : ℕ) (b : Bool) (xs : List Lanes) (x : Lanes) → d < length xs → SetsMark old d b new → (b ≡ true → 0 < d) → (b ≡ false → x ≡ clean) → AreNoted old xs → AreNoted new (slice_set xs d x)
noted_set old new d b xs x inside set some is n = record { first = first b (d == 0) refl refl; at = λ r h k e. by r h k e (d == r) refl } where
  first : (c t : Bool) → b ≡ c → (d == 0) ≡ t → has_mark new 0 ≡ false
  first true true f e = absurd (omega (arith, some f, eqb-true d 0 e))
  first false true f e = set 0 (omega arith) ∙ ap (λ (t : Bool). if t then b else has_mark old 0) e ∙ f
  first c false f e = set 0 (omega arith) ∙ ap (λ (t : Bool). if t then b else has_mark old 0) e ∙ n.first

  by : (r : ℕ) → 0 < r → r < 32 → has_mark new r ≡ false → (t : Bool) → (d == r) ≡ t → slice_index_or (slice_set xs d x) r clean ≡ clean
  by r h k e true same =
      subst (λ (i : ℕ). slice_index_or (slice_set xs d x) i clean ≡ clean) (eqb-true d r same)
      (cell_same xs d x clean inside ∙ is (sym (set r k ∙ ap (λ (t : Bool). if t then b else has_mark old r) same) ∙ e))
  by r h k e false apart =
      cell_other xs d x clean r (eqb-false d r apart) ∙ n.at r h k (sym (set r k ∙ ap (λ (t : Bool). if t then b else has_mark old r) apart) ∙ e)

abbrev IsAlike : Lanes → Type 0
IsAlike y = y ≡ alike y.first

-- where the lanes of a register are set that have one label, or aren't noted so
pub alike_set : (old new d : ℕ) (b : Bool) (xs : List Lanes) (x : Lanes) → d < length xs → SetsMark old d b new → (b ≡ true → x ≡ alike x.first) → AreAlike old xs → AreAlike new (slice_set xs d x)
alike_set old new d b xs x inside set is are r k e = by (d == r) refl where
  by : (t : Bool) → (d == r) ≡ t → IsAlike (slice_index_or (slice_set xs d x) r clean)
  by true same =
      let one = is (sym (set r k ∙ ap (λ (t : Bool). if t then b else has_mark old r) same) ∙ e) in
      subst (λ (i : ℕ). IsAlike (slice_index_or (slice_set xs d x) i clean)) (eqb-true d r same) (subst IsAlike (sym (cell_same xs d x clean inside)) one)
  by false apart =
      subst IsAlike (sym (cell_other xs d x clean r (eqb-false d r apart))) (are r k (sym (set r k ∙ ap (λ (t : Bool). if t then b else has_mark old r) apart) ∙ e))

-- marks that are as they were
pub marks_stay : (marks d : ℕ) → SetsMark marks d (has_mark marks d) marks
marks_stay marks d r h = by (d == r) refl where
  by : (t : Bool) → (d == r) ≡ t → has_mark marks r ≡ (if t then has_mark marks d else has_mark marks r)
  by true e = ap (has_mark marks) (sym (eqb-true d r e))
  by false e = refl

module _ (p : Places) where
  -- the lanes of a register that isn't noted as labelled have no label, as origins
  pub unlabelled : (r i : ℕ) → AreNoted p.labelled.bits p.registers.items → r < 32 → i < 4 → has_mark p.labelled.bits r ≡ false → origin_lane p r i ≡ nothing_label
  unlabelled r i n h k e = by (r == 0) refl where
    by : (t : Bool) → (r == 0) ≡ t → (if t then nothing_label else kept p (Reg r i)) ≡ nothing_label
    by true same = refl
    by false apart = ap (λ (x : Lanes). lane_at x i) (n.at r (omega (arith, eqb-false r 0 apart)) h e) ∙ alike_at nothing_label i k

  -- to clear the lanes of a register that have no label changes nothing
  pub lanes_clean : (d : ℕ) → ((i : ℕ) → i < 4 → origin_lane p d i ≡ nothing_label) → AreKept p (with_lanes d clean (kept p))
  lanes_clean d none = record { at = by } where
    by : (l : Loc) → IsLocation l → kept p l ≡ with_lanes d clean (kept p) l
    by (Mem m) here = refl
    by (Reg r i) here = at (d == 0) (d == r) refl refl where
      at : (z t : Bool) → (d == 0) ≡ z → (d == r) ≡ t → kept p (Reg r i) ≡ (if z then kept p (Reg r i) else if t then lane_at clean i else kept p (Reg r i))
      at true t e f = refl
      at false true e f =
          ap (λ (k : ℕ). kept p (Reg k i)) (sym (eqb-true d r f)) ∙ ap (λ (z : Bool). if z then nothing_label else kept p (Reg d i)) (sym e) ∙ none i here.1 ∙ sym (alike_at nothing_label i here.1)
      at false false e f = refl

  -- those of one that is noted as labelled and as alike have the label of the first
  pub one_labelled : (r i : ℕ) → AreAlike p.uniform.bits p.registers.items → AreNoted p.labelled.bits p.registers.items → r < 32 → i < 4 → has_mark p.labelled.bits r ≡ true
      → has_mark p.uniform.bits r ≡ true → origin_lane p r i ≡ (slice_index_or p.registers.items r clean).first
  one_labelled r i are n h low e f = by (r == 0) refl where
    by : (t : Bool) → (r == 0) ≡ t → (if t then nothing_label else kept p (Reg r i)) ≡ (slice_index_or p.registers.items r clean).first
    by true same = absurd (both_ways (has_mark p.labelled.bits 0) n.first (ap (has_mark p.labelled.bits) (sym (eqb-true r 0 same)) ∙ e))
    by false apart = ap (λ (x : Lanes). lane_at x i) (are r h f) ∙ alike_at (slice_index_or p.registers.items r clean).first i low
