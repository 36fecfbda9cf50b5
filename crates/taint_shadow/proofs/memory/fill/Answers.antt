use Rattle.std.proofs.Common.{◌≡◌, ◌+◌, ◌%◌, ℕ, zero, suc, List, [], ◌∷◌, ◌++◌, length, refl, ap, ◌∙◌, arith}
use Rattle.std.specs.Prelude.{slice_index_or}
use Rattle.flow_model.specs.declared.Loc.TheVariants.{Mem}
use Rattle.taint_shadow.specs.declared.labels.Label.{Label}
use Rattle.taint_shadow.specs.Labels.{start_label}
use Rattle.taint_shadow.specs.Memory.{cell_or}
use Rattle.taint_shadow.proofs.memory.fill.Goals as goal

-- with one cell more, where it is what a cell that isn't there counts as
pushed_or : (xs : List Label) (x d : Label) (i : ℕ) → (i ≡ length xs → x ≡ d) → slice_index_or (xs ++ x ∷ []) i d ≡ slice_index_or xs i d
pushed_or [] x d zero h = h refl
pushed_or [] x d (suc i) h = refl
pushed_or (y ∷ ys) x d zero h = refl
pushed_or (y ∷ ys) x d (suc i) h = pushed_or ys x d i (λ e. h (ap suc e))

pub loop-cell-preserved : goal.loop-cell-preserved
loop-cell-preserved c =
    let cells = c.loop-cell.cells.items in
    let first = c.args.first in
    record {
      size = omega (arith, c.in_ok-push.ensures.len, c.loop-cell.invariant.size);
      same = λ q line. ap (λ (xs : List Label). cell_or xs q) c.in_ok-push.ensures.items
          ∙ pushed_or cells c.start.result (start_label (Mem q)) (q % 64)
          (λ e. let place : first + c.loop-cell.cell ≡ q = omega (arith, e, c.loop-cell.invariant.size, line, c.requires) in
          c.start.ensures.label ∙ ap (λ (p : ℕ). start_label (Mem p)) place)
          ∙ c.loop-cell.invariant.same q line;
    }
