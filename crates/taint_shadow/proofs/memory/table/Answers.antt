use Rattle.std.proofs.Common.{arith, sym, ◌∙◌}
use Rattle.taint_shadow.proofs.Grown.{items_found, items_beyond}
use Rattle.taint_shadow.proofs.memory.table.Goals as goal

pub returns-then-number-tables : goal.returns-then-number-tables
returns-then-number-tables g c =
    c.as_slice.ensures.value ∙ items_found c.args.tables.now c.args.number c.index-tables-number.result (omega (arith, c.if-number-tables.true)) c.index-tables-number.is

pub returns-else-number-tables : goal.returns-else-number-tables
returns-else-number-tables g c = sym (items_beyond c.args.tables.now c.args.number (omega (arith, c.if-number-tables.false)))
