use Rattle.order_gateway.proofs.Zeros.{told_next, told_last}
use Rattle.order_gateway.proofs.clock.StoppedClockClock.now.Goals as goal

pub returns-then-self : goal.returns-then-self
returns-then-self c = told_last c.args.self.now.asked c.if-self.true

pub returns : goal.returns
returns c = told_next c.args.self.now.asked
