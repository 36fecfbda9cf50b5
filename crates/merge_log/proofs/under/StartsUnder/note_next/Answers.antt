use Rattle.std.proofs.Common.{◌≡◌, ℕ, ◌+◌, ◌-◌, [], ◌∷◌, ◌++◌, length, slice_index, ap, ap₂, sym, ◌∙◌, subst, arith}
use Rattle.std.specs.Prelude.{Some}
use Rattle.std.specs.Int.{bit_at}
use Rattle.std.specs.Int.RustNames.{bit_or}
use Rattle.merge_log.specs.Under.{AreUnder, IsUnder}
use Rattle.merge_log.proofs.Noted.{entry_stands, leaf_noted, mask_pushed, nothing_noted, union_under}
use Rattle.merge_log.proofs.under.StartsUnder.note_next.Goals as goal
use Rattle.merge_log.proofs.under.StartsUnder.note_next.Goals.{in-Source, in-Run, in-Start, in-Union}

pub returns : goal.returns
returns c = λ log order at under.
    let s = c.args.self.now in
    let is : c.args.node ≡ length s.masks.items + 1 = omega (arith, c.if-len-node.false, c.len.ensures, s.masks.ok) in
    subst (AreUnder log c.match-entry.self.leaves.items) (sym c.in-Ok.ensures.items)
    (elim c.match-entry.branch [
      | in-Source w ↦
          subst (λ n. AreUnder log n.leaves.items (n.masks.items ++ c.match-entry.mask ∷ [])) (sym w.self-is)
          (nothing_noted log s.leaves.items s.masks.items c.match-entry.mask w.mask-is under)
      | in-Run w ↦
          subst (λ n. AreUnder log n.leaves.items (n.masks.items ++ c.match-entry.mask ∷ [])) (sym w.self-is)
          (nothing_noted log s.leaves.items s.masks.items c.match-entry.mask w.mask-is under)
      | in-Start w ↦
          let noted = (leaf_noted log s.leaves.items w.add_leaf-mask.new.self.leaves.items s.masks.items c.args.node w.add_leaf-mask.result under
          (entry_stands log c.args.node _ at) is w.add_leaf-mask.ensures.bit).1 in
          subst (λ n. AreUnder log n.leaves.items (n.masks.items ++ c.match-entry.mask ∷ [])) (sym w.self-is)
          (subst (λ m. AreUnder log w.add_leaf-mask.new.self.leaves.items (w.add_leaf-mask.new.self.masks.items ++ m ∷ [])) (sym w.mask-is)
          (subst (λ v. AreUnder log w.add_leaf-mask.new.self.leaves.items (v.items ++ w.add_leaf-mask.result ∷ [])) (sym w.add_leaf-mask.ensures.masks) noted))
      | in-Union w ↦
          let both : c.match-entry.mask ≡ bit_or (slice_index s.masks.items (w.in-Union.left - 1)) (slice_index s.masks.items (w.in-Union.right - 1)) =
          w.mask-is ∙ ap₂ bit_or w.mask.ensures w.mask-in-Union.ensures in
          let own : (k : ℕ) → bit_at c.match-entry.mask k ≡ 1 → IsUnder log s.leaves.items (length s.masks.items + 1) k =
          λ k b. subst (λ n. IsUnder log s.leaves.items n k) is
          (union_under log s.leaves.items s.masks.items c.args.node w.in-Union.left w.in-Union.right order under (at ∙ ap Some w.in-Union.is) k (ap (λ m. bit_at m k) (sym both) ∙ b)) in
          subst (λ n. AreUnder log n.leaves.items (n.masks.items ++ c.match-entry.mask ∷ [])) (sym w.self-is)
          (mask_pushed log s.leaves.items s.masks.items c.match-entry.mask under own)
    ])
