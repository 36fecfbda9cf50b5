use Rattle.std.proofs.Common.{ℕ, subst}
use Rattle.epoch_summary.specs.Slots.{IsBlock}
use Rattle.epoch_summary.proofs.place_table.PlaceTable.find_block.Goals as goal

pub returns-in-Some-clause-block : goal.returns-in-Some-clause-block
returns-in-Some-clause-block c =
    let s = c.args.self.now in
    subst (λ (key : ℕ). IsBlock s.blocks.keys key c.in-Some.block.first) c.if-block-key.true (s.last_found c.in-Some.block c.in-Some.is)
