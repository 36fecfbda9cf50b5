use Rattle.std.proofs.Common.{◌≡◌, false, arith}
use Rattle.checkpoints.proofs.Splitting.{same_there}
use Rattle.checkpoints.proofs.paging.number_at.Goals as goal

pub returns-then-place-before-clause-count : goal.returns-then-place-before-clause-count
returns-then-place-before-clause-count c same =
    let untouched : c.args.is_touched ≡ false = search in
    let held = same untouched c.if-place-before.true in
    omega (arith, same_there c.args.pages.now c.args.before.now c.args.page.now c.args.place c.if-place-before.true held)
