use Rattle.std.proofs.Common.{◌≡◌, ◌<◌, ℕ, [], length, slice_index_or, arith, ap, sym, subst, ◌∙◌}
use Rattle.std.proofs.lemmas.Bool.{both_ways}
use Rattle.flow_model.specs.declared.Loc.TheVariants.{Reg, Mem}
use Rattle.taint_shadow.specs.declared.lanes.Lanes.{Lanes}
use Rattle.taint_shadow.specs.Labels.{start_label}
use Rattle.taint_shadow.specs.Lanes.{lane_at, clean}
use Rattle.flow_model.specs.declared.Loc.{Loc}
use Rattle.flow_model.specs.Ranges.{IsLocation}
use Rattle.taint_shadow.specs.Memory.{in_memory}
use Rattle.taint_shadow.specs.Places.{kept, AreKept}
use Rattle.taint_shadow.specs.declared.places.Places.{Places}
use Rattle.taint_shadow.proofs.Grown.{push_read}
use Rattle.taint_shadow.proofs.Notes.{noted_start}
use Rattle.taint_shadow.proofs.places.Places.new.Goals as goal

pub loop-number-preserved : goal.loop-number-preserved
loop-number-preserved c =
    let before = c.loop-number.invariant in
    let xs = c.loop-number.registers.items in
    let x = c.start_lanes.result in
    let items = c.in_ok-push.ensures.items in
    let P : ℕ → Lanes → Type 0 = λ r y. (i : ℕ) → i < 4 → lane_at y i ≡ start_label (Reg r i) in
    let last : P (length xs) x = λ i h. c.start_lanes.ensures i h ∙ ap (λ r. start_label (Reg r i)) (sym before.size) in
    record {
      size = omega (arith, c.in_ok-push.ensures.len, before.size);
      begun = λ r h. subst (λ ys. P r (slice_index_or ys r clean)) (sym items) (push_read P xs x clean before.begun last r (omega (arith, h, c.in_ok-push.ensures.len, ap length items)));
    }

started : (p : Places) → length p.registers.items ≡ 32 → p.memory.items ≡ []
    → ((r : ℕ) → r < length p.registers.items → (i : ℕ) → i < 4 → lane_at (slice_index_or p.registers.items r clean) i ≡ start_label (Reg r i)) → AreKept p start_label
started p all none begun = record { at = λ l here. by l here } where
  by : (l : Loc) → IsLocation l → kept p l ≡ start_label l
  by (Reg r i) here = begun r (omega (arith, all, here.0)) i here.1
  by (Mem q) here = ap (λ R. in_memory R q) none

pub invariant_of-result : goal.invariant_of-result
invariant_of-result c =
    let all : length c.loop-number.registers.items ≡ 32 = omega (arith, c.loop-number.invariant.size, c.loop-number-test.false, c.loop-number.auto.number-end) in
    record { lanes = all; noted = noted_start _ c.loop-number.registers.items c.all_but_first.ensures; same = λ r h k. absurd (both_ways _ (c.none.ensures r) k) }

pub returns : goal.returns
returns c =
    let all : length c.loop-number.registers.items ≡ 32 = omega (arith, c.loop-number.invariant.size, c.loop-number-test.false, c.loop-number.auto.number-end) in
    started _ all c.new.ensures.items c.loop-number.invariant.begun
