use Rattle.std.proofs.Common.{◌-◌}
use Rattle.call_record.proofs.SoFar.{IsRunning}
use Rattle.call_record.proofs.recorder.Recorder.run.Given as goal

abbrev pub invariant-loop-at : goal.invariant-loop-at
invariant-loop-at g l = IsRunning l.initial.self.machine.state l.source (g.K.Clock.answers l.initial.clock) l.at l.steps l.self
    (g.K.Clock.answers l.clock)

abbrev pub decreases-loop-at : goal.decreases-loop-at
decreases-loop-at g l = l.steps - l.at
