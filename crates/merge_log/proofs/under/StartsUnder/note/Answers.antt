use Rattle.std.proofs.Common.{ap, sym, ◌∙◌, subst}
use Rattle.std.specs.Int.{bit_at}
use Rattle.merge_log.specs.Under.{AreUnder}
use Rattle.merge_log.proofs.under.StartsUnder.note.Goals as goal
use Rattle.merge_log.proofs.under.StartsUnder.note.Goals.{then-is_empty+else-not-is_start, else-is_empty}

pub returns : goal.returns
returns c = λ log order at under.
    c.note_next.ensures log order at
    (elim c.if-is_empty.branch [
      | then-is_empty+else-not-is_start w ↦
          subst (λ s. AreUnder log s.leaves.items s.masks.items) (sym w.self-is)
          (λ i k bit. under i k (ap (λ m. bit_at m k) (sym (w.pad.ensures i)) ∙ bit))
      | else-is_empty w ↦ subst (λ s. AreUnder log s.leaves.items s.masks.items) (sym w.self-is) under
    ])
