use Rattle.isa.specs.declared.CallKind.TheVariants.{Other}
use Rattle.decision_find.specs.declared.looks.Look.{Look}
use Rattle.decision_find.proofs.Followed.{looked_at_trap}
use Rattle.decision_find.proofs.tracking.DecisionTracking.look_at_trap.Goals as goal

pub returns-clause-looked : goal.returns-clause-looked
returns-clause-looked c q job is stands traps h =
    let look : Look = record { time = c.time.result; pc = c.pc.result; instr = c.fetched.result; kind = Other } in
    looked_at_trap q job c.args.at.now is stands look c.args.self.now c.note.new.self traps c.time.ensures c.pc.ensures c.fetched.ensures.there
    c.in_ok-note.ensures.noted c.in_ok-note.ensures.sound.groups h
