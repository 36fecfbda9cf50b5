use Rattle.checked_epochs.proofs.Opening.{opened_of_some}
use Rattle.checked_epochs.proofs.working.open.Goals as goal

pub ahead_of-requires-clause-of_some : goal.ahead_of-requires-clause-of_some
ahead_of-requires-clause-of_some c = opened_of_some c.args.program.now c.args.image.now c.args.log.now c.in_ok-checker.checker c.in_ok-checker.ensures.ok
