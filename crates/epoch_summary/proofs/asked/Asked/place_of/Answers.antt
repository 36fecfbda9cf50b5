use Rattle.std.proofs.Common.{◌∙◌, ap, arith, sym}
use Rattle.epoch_summary.specs.Placed.{held_at}
use Rattle.epoch_summary.proofs.Placing.{has_at, not_had, place_held}
use Rattle.epoch_summary.proofs.asked.Asked.place_of.Goals as goal

pub returns-in-0-clause-asked : goal.returns-in-0-clause-asked
returns-in-0-clause-asked c =
    let s = c.self.inside in
    rw (← c.self.view_is) (sym (not_had s.locations.items s.table c.args.loc c.self.invariant.1 (sym (ap (held_at s.table) c.number_of.ensures.number) ∙ sym c.value.ensures ∙ c.in-0.is)))

pub returns-in_default-clause-place : goal.returns-in_default-clause-place
returns-in_default-clause-place c =
    let s = c.self.inside in
    rw (← c.self.view_is)
    (place_held s.locations.items s.table c.args.loc c.value.result c.self.invariant.1 c.number_of.ensures.fits (c.value.ensures ∙ ap (held_at s.table) c.number_of.ensures.number) (omega (arith, c.in_default)))

pub returns-in_default-clause-asked : goal.returns-in_default-clause-asked
returns-in_default-clause-asked c = sym (has_at c.args.self.now _ c.args.loc (returns-in_default-clause-place c))
