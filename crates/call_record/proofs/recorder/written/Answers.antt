use Rattle.std.proofs.Common.{arith, ◌-◌, length, drop, length-take, length-drop, ap}
use Rattle.std.proofs.lemmas.Bool.{false≢true}
use Rattle.call_record.proofs.recorder.written.Goals as goal

pub returns-in-Some-clause-short : goal.returns-in-Some-clause-short
returns-in-Some-clause-short c =
    let s = c.args.machine.now.state in
    let rest = drop (c.args.place - s.base) s.memory in
    let first = length-take c.args.count rest in
    let behind = length-drop (c.args.place - s.base) s.memory in
    let part = ap length c.in-Some.ensures.part in
    omega arith

pub returns-in-None-clause-part : goal.returns-in-None-clause-part
returns-in-None-clause-part c = λ there. absurd (false≢true (c.in-None.ensures.held.1 there))
