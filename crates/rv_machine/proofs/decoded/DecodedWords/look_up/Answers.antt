use Rattle.std.proofs.Common.{sym, ◌-◌}
use Rattle.rv_machine.proofs.Known.{known_there}
use Rattle.rv_machine.proofs.decoded.DecodedWords.look_up.Goals as goal

pub returns-in-Some-clause-is : goal.returns-in-Some-clause-is
returns-in-Some-clause-is c =
    let known = c.in-Some.ensures in
    sym (known_there c.args.self.now c.args.memory.now (c.args.pc - c.args.base) c.in-Some.instr c.requires.known known.aligned known.within known.is known.other).is
