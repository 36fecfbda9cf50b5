use Rattle.rv_machine.specs.Effects.{state_of}
use Rattle.rv_machine.proofs.Doing.{does}
use Rattle.rv_machine.proofs.state.instructions.execute.Goals as goal

pub returns : goal.returns
returns g c =
    let s = state_of c.args.at.now c.args.registers.now c.args.base c.args.memory.now in
    let done = c.by_instruction.ensures in
    rw (done.leads, done.sets, done.writes) (does s c.args.instr.now c.requires.fits)
