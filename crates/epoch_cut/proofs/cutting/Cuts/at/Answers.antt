use Rattle.std.proofs.Common.{◌≡◌, ℕ, zero, suc, ◌+◌, ◌-◌, ◌*◌, ◌<◌, ◌≤◌, min, Some, List, ◌∷◌, length, slice_get, ap, sym, ◌∙◌, subst, arith}
use Rattle.epoch_model.specs.ByLength.{cut_at, cut_times_from, lengths_of_last, shrinking_times}
use Rattle.epoch_cut.specs.Shapes.{times_of, IsShapeOf}
use Rattle.epoch_cut.specs.declared.cutting.Shape.TheVariants.{LongFirst, Shrinking}
use Rattle.epoch_cut.proofs.CutTimes.{from-counted, from-multiples}
use Rattle.epoch_cut.proofs.Shrinking.{shrinking-counted, shrinking-multiples}
use Rattle.epoch_cut.proofs.cutting.Cuts.at.Goals.{in-LongFirst, in-Shrinking}
use Rattle.epoch_cut.proofs.cutting.Cuts.at.Goals as goal

-- the k-th cut, where k isn't 0
at_long_first : (first steps by k : ℕ) → 1 ≤ k → k ≤ length (cut_times_from first steps by)
    → slice_get (0 ∷ cut_times_from first steps by) k ≡ Some (cut_at steps by (first + k - 1))
at_long_first first steps by zero some within = absurd (omega (arith, some))
at_long_first first steps by (suc j) some within =
    let place : first + suc j - 1 ≡ first + j = omega arith in
    rw place (from-multiples first steps by j (omega (arith, from-counted first steps by, within)))

-- what a product of so many lengths comes to, cut short by the largest number and then by the steps
cut_short : (lengths by steps product result : ℕ) → steps < 18446744073709551616 → product ≡ min (lengths * by) 18446744073709551615
    → result ≡ min product steps → cut_at steps by lengths ≡ result
cut_short lengths by steps product result fits is_product is_result = omega (arith, fits, is_product, is_result)

pub overflow_sub-epochs : goal.overflow_sub-epochs
overflow_sub-epochs c =
    let epochs = c.in-Shrinking.epochs in
    let s = c.self.inside.steps in
    let by = c.self.inside.length in
    let seen : times_of (Shrinking epochs) s by ≡ c.args.self.now = subst (λ shape. times_of shape s by ≡ c.args.self.now) c.in-Shrinking.is c.self.view_is in
    omega (arith, subst (λ cuts. c.args.k ≤ length cuts) (sym seen) c.requires, shrinking-counted epochs s by)

pub returns : goal.returns
returns c =
    let s = c.self.inside.steps in
    let by = c.self.inside.length in
    let k = c.args.k in
    let now = c.args.self.now in
    let some : 1 ≤ k = omega (arith, c.if-k-eq0.false) in
    let short : cut_at s by c.match-self.lengths ≡ c.min.result = cut_short c.match-self.lengths by s c.saturating_mul.result c.min.result (omega (arith, c.self.ranges)) c.saturating_mul.ensures c.min.ensures in
    elim c.match-self.branch [
      | in-LongFirst w ↦
          let first = w.in-LongFirst.lengths in
          let seen : times_of (LongFirst first) s by ≡ now = subst (λ shape. times_of shape s by ≡ now) w.in-LongFirst.is c.self.view_is in
          let few : k ≤ length (cut_times_from first s by) = subst (λ cuts. k ≤ length cuts) (sym seen) c.requires in
          let lengths : first + k - 1 ≡ c.match-self.lengths = omega (arith, w.from.ensures, w.from-in-LongFirst.ensures, w.lengths-is) in
          subst (λ cuts. slice_get (0 ∷ cuts) k ≡ Some c.min.result) seen
          (at_long_first first s by k some few ∙ ap Some (ap (cut_at s by) lengths ∙ short))
      | in-Shrinking w ↦
          let epochs = w.in-Shrinking.epochs in
          let seen : times_of (Shrinking epochs) s by ≡ now = subst (λ shape. times_of shape s by ≡ now) w.in-Shrinking.is c.self.view_is in
          let few : k ≤ epochs = omega (arith, subst (λ cuts. k ≤ length cuts) (sym seen) c.requires, shrinking-counted epochs s by) in
          let lengths : lengths_of_last epochs - lengths_of_last (epochs - k) ≡ c.match-self.lengths = cc in
          subst (λ cuts. slice_get (0 ∷ cuts) k ≡ Some c.min.result) seen
          (shrinking-multiples epochs s by k some few ∙ ap Some (ap (cut_at s by) lengths ∙ short))
    ]
