use Rattle.std.proofs.Common.{arith, ◌≡◌, ◌<◌, length, inr, ◌∙◌}
use Rattle.merge_log.proofs.Noted.{one_bit}
use Rattle.merge_log.proofs.under.StartsUnder.add_leaf.Goals as goal

pub returns-clause-bit : goal.returns-clause-bit
returns-clause-bit c =
    let leaves = c.args.self.now.leaves in
    let few : c.len-bit.result < 64 = omega (arith, c.if-bit-ge-MOST_LEAVES.false) in
    let next : c.len-bit.result ≡ length leaves.items = omega (arith, c.len-bit.ensures, leaves.ok) in
    inr (c.in-Ok.ensures.items, λ k b. one_bit c.len-bit.result k few b ∙ next)
