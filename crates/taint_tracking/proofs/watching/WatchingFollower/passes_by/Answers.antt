use Rattle.std.proofs.Common.{subst}
use Rattle.rv_machine.specs.Running.{PassesBy}
use Rattle.taint_tracking.specs.Watched.{TracksPlain}
use Rattle.taint_tracking.proofs.InARow.{passed_by}
use Rattle.taint_tracking.proofs.watching.WatchingFollower.passes_by.Goals as goal

pub returns : goal.returns
returns g c = λ passes.
    let words = g.L.Labels.words in
    subst (λ w. PassesBy (TracksPlain words) c.args.registers w) c.self.view_is
    (passed_by words c.args.registers c.self.inside.no_memory c.self.inside.tracking c.self.invariant (c.passes_by.ensures passes))
