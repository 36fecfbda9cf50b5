use Rattle.std.proofs.Common.{sym, subst}
use Rattle.flow_model.specs.Ranges.{IsTable}
use Rattle.flow_model.proofs.Located.{cleared_table}
use Rattle.path_find.proofs.following.follow_call.Goals as goal

pub carry-requires-clause-table : goal.carry-requires-clause-table
carry-requires-clause-table c = subst IsTable (sym c.cleared.ensures) (cleared_table c.args.call.now.kind)
