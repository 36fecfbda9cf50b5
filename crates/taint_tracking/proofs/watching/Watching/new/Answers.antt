use Rattle.taint_tracking.proofs.watching.Watching.new.Goals as goal

pub returns : goal.returns
returns g c = c.of_epoch.ensures
