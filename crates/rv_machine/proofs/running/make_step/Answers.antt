use Rattle.rv_machine.specs.Effects.{state_of}
use Rattle.rv_machine.proofs.running.make_step.Goals as goal

pub execute-requires-clause-may : goal.execute-requires-clause-may
execute-requires-clause-may g c =
    c.requires.known.sets (state_of c.args.at.now c.args.registers.now c.args.base c.args.memory.now)
