use Rattle.std.proofs.Common.{◌≡◌, ℕ, take, reverse, ap, ◌∙◌, arith}
use Rattle.run_output.specs.Stack.{outside_of}
use Rattle.run_output.proofs.Returns.{left_of_all}
use Rattle.run_output.proofs.progress.left_after_return.Goals as goal

-- no call returns to the address
pub returns-clause-left : goal.returns-clause-left
returns-clause-left c =
    let calls = c.args.calls.now in
    let none : c.loop-left.left ≡ 0 = omega arith in
    ap (λ (n : ℕ). reverse (take n calls)) c.saturating_sub.ensures
    ∙ left_of_all c.args.address calls (c.loop-left.invariant.none ∙ ap (λ (n : ℕ). outside_of c.args.address (reverse (take n calls))) none)
