use Rattle.taint_tracking.proofs.watching.Watching.of_epoch.Goals as goal

pub invariant_of-result : goal.invariant_of-result
invariant_of-result g c = c.in_ok-begin.ensures.sound

pub returns : goal.returns
returns g c trace m course = c.in_ok-begin.ensures.begun trace m course
