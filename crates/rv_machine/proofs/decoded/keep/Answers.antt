use Rattle.std.proofs.Common.{rules, sym, arith}
use Rattle.rv_machine.proofs.Known.{kept}
use Rattle.rv_machine.proofs.decoded.keep.Goals as goal

pub returns : goal.returns
returns c memory known there =
    kept c.args.slots.now memory c.args.number (record { instr = c.args.instr; registers = c.registers_of-registers.result }) (omega arith) (record { fits = c.requires.fits; sets = search rules; bits = sym c.registers_of-registers.ensures }) known there
