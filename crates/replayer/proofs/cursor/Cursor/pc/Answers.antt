use Rattle.std.proofs.Common.{ap, ◌∙◌}
use Rattle.replay_model.specs.Run.{Moment, start, moment_after}
use Rattle.rv_machine.specs.Hart.{Hart}
use Rattle.replayer.specs.Positions.{CursorAt}
use Rattle.replayer.proofs.cursor.Cursor.pc.Goals as goal

pub returns : goal.returns
returns c =
    c.pc.ensures ∙ ap (λ (h : Hart). h.state.pc) c.machine.ensures ∙ ap (λ (m : Moment). m.state.pc) c.self.invariant.stands.here
    ∙ ap (λ (k : CursorAt). (moment_after k.time (start k.job.start k.job.log)).state.pc) c.self.view_is
