use Rattle.std.proofs.Common.{List, subst, sym}
use Rattle.flow_model.specs.declared.Loc.{Loc}
use Rattle.std.specs.List.{IsDistinct}
use Rattle.std.specs.Ordering.{eq_by_cmp}
use Rattle.flow_model.specs.Orders.{loc_cmp}
use Rattle.epoch_summary.specs.Placed.{ArePlaced}
use Rattle.epoch_summary.proofs.Placing.{none_placed}
use Rattle.epoch_summary.proofs.asked.Asked.with_room.Goals as goal

pub invariant_of-result : goal.invariant_of-result
unfolding IsDistinct
invariant_of-result c =
    let t = c.in_ok-table.table in
    subst (λ (ls : List Loc). IsDistinct (eq_by_cmp loc_cmp) ls × ArePlaced ls t) (sym c.in_ok-locations.ensures.items) (tt, none_placed t c.in_ok-table.ensures)
