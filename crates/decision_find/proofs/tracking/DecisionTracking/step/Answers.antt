use Rattle.std.proofs.Common.{subst}
use Rattle.decision_find.specs.declared.looks.Look.{Look}
use Rattle.decision_find.specs.Looks.{looked_at}
use Rattle.decision_find.specs.Following.{Notes}
use Rattle.decision_find.proofs.Followed.{step_followed}
use Rattle.decision_find.proofs.tracking.DecisionTracking.step.Goals as goal

pub returns-clause-followed : goal.returns-clause-followed
returns-clause-followed c q job is h =
    let old = c.args.self.now in
    let mid = c.note.new.self in
    let noted = subst (λ (look : Look). Notes look (looked_at old.rule look) old mid) c.before-2.ensures c.in_ok-note.ensures.noted in
    step_followed q job c.args.pc c.args.step.now old mid c.turn.new.self is h noted c.in_ok-turn.ensures.turned c.in_ok-turn.ensures.sound
