use Rattle.std.proofs.Common.{ap, sym, ◌∙◌, arith}
use Rattle.log_model.specs.Logs.{steps}
use Rattle.replayer.specs.Jobs.{Job}
use Rattle.replayer.specs.Positions.{CursorAt}
use Rattle.run_travel.proofs.Stopping.{found_before}
use Rattle.run_travel.proofs.travel.Travel.go_back.Goals as goal

pub go_to-requires : goal.go_to-requires
go_to-requires c =
    let before = found_before c.self.inside.checkpoints.now.job c.args.points.now c.time-time.result c.in-Some.stop (sym c.in-Some.is ∙ c.in_ok-stop.ensures) in
    let log = ap (λ (j : Job). steps j.log) (sym c.self.invariant.same_job ∙ ap (λ (k : CursorAt). k.job) c.self.view_is) in
    omega (arith, before, log, c.time-time.ensures, c.self.invariant.within)
