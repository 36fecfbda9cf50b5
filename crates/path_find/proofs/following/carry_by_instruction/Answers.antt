use Rattle.std.proofs.Common.{sym, subst}
use Rattle.flow_model.specs.Ranges.{IsTable}
use Rattle.flow_model.proofs.Located.{flow_table}
use Rattle.path_find.proofs.following.carry_by_instruction.Goals as goal

pub carry-requires-clause-table : goal.carry-requires-clause-table
carry-requires-clause-table c = subst IsTable (sym c.flow.ensures) (flow_table c.args.rule c.args.instr.now c.args.place c.requires.fits)
