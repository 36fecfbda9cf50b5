use Rattle.std.proofs.Common.{arith, ap₂, sym, ◌∙◌, ◌≡◌, ℕ, ◌<◌, length}
use Rattle.std.specs.Int.{bit_at}
use Rattle.std.proofs.lemmas.Nat.Bits.{shr_and_one}
use Rattle.merge_log.specs.Log.{Terms}
use Rattle.merge_log.specs.Masks.{found_at, with_leaves}
use Rattle.merge_log.proofs.Roots.{AreGiven, given_next, given_none, found_lent, leaves_kept}
use Rattle.merge_log.proofs.spread.give.Goals as goal
use Rattle.merge_log.proofs.spread.give.Goals.{then-mask-root-eq1+in_ok-add, else-mask-root-eq1}

pub loop-root-preserved : goal.loop-root-preserved
loop-root-preserved c =
    let given : ℕ → Terms → Terms → Type 0 = λ r t u. u ≡ with_leaves (bit_at c.args.mask r) c.args.leaves t in
    let l = c.loop-root in
    let root = l.root in
    let bit = shr_and_one c.args.mask root in
    let within : root < length l.found.items = omega (arith, c.loop-root-test.true, c.len.ensures, l.invariant.sets) in
    let before : AreGiven given c.args.found.now.items l.found.items root =
    record { sets = l.invariant.sets; given = l.invariant.given; rest = l.invariant.rest } in
    elim c.if-mask-root-eq1.branch [
      | then-mask-root-eq1+in_ok-add w ↦
          let lent = found_lent l.found.items root w.index_mut.result.now within w.index_mut.ensures.value in
          let more = w.in_ok-add.ensures ∙ ap₂ (λ (t : Terms) (i : ℕ). with_leaves i c.args.leaves t) lent (sym w.if-mask-root-eq1.true ∙ bit) in
          let next = given_next given _ _ _ before w.add.new.self within more in
          rw w.found-is (record { sets = next.sets; given = next.given; rest = next.rest })
      | else-mask-root-eq1 w ↦
          let same = leaves_kept (bit_at c.args.mask root) c.args.leaves (found_at l.found.items root) (λ e. w.if-mask-root-eq1.false (bit ∙ e)) in
          let next = given_none given _ _ _ before (sym same) in
          rw w.found-is (record { sets = next.sets; given = next.given; rest = next.rest })
    ]
