use Rattle.std.proofs.Common.{arith}
use Rattle.taint_tracking.proofs.Following.{none_due, quiet_after}
use Rattle.taint_tracking.proofs.tracking.Tracking.note_due.Goals as goal

pub returns-clause-noted : goal.returns-clause-noted
returns-clause-noted g c later =
    let t = c.args.self.now in
    let sound = c.requires.sound in
    none_due g.L.Labels.words t c.args.number (quiet_after t.points.now c.args.number sound.points later (λ e. omega (arith, c.if-number-self.false, sound.due, e)))
