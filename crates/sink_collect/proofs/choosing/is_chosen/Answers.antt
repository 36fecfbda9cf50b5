use Rattle.std.proofs.Common.{ap, sym, ◌∙◌, subst}
use Rattle.std.specs.declared.cmp.Ordering.{Ordering}
use Rattle.flow_model.specs.declared.InnerSink.{InnerSink}
use Rattle.flow_model.specs.Orders.{inner_cmp}
use Rattle.flow_model.proofs.Derived.{inner_order_is}
use Rattle.lists.specs.Sets.{Ascends, has}
use Rattle.report_model.specs.Query.{has_sink}
use Rattle.sink_collect.proofs.choosing.is_chosen.Goals as goal

abbrev Order : Type 0
Order = InnerSink → InnerSink → Ordering

pub contains-requires : goal.contains-requires
contains-requires c =
    subst (λ (R : Order). Ascends R c.points.result.now) inner_order_is (subst (Ascends inner_cmp) (sym c.points.ensures.value) c.points.ensures.ascending)

pub returns-in-At : goal.returns-in-At
returns-in-At c =
    c.contains.ensures ∙ ap (λ (R : Order). has R c.in-At.point c.points.result.now) (sym inner_order_is) ∙ ap (has inner_cmp c.in-At.point) c.points.ensures.value ∙ ap (has_sink c.args.query.now) (sym c.in-At.is)
