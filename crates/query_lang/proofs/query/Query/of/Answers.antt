use Rattle.std.proofs.Common.{subst, sym, List}
use Rattle.lists.specs.Sets.{Ascends}
use Rattle.lists.proofs.Algebra.{Ascends-set_of}
use Rattle.flow_model.specs.declared.InnerSink.{InnerSink}
use Rattle.flow_model.specs.Orders.{inner_cmp}
use Rattle.flow_model.proofs.Orders.{inner_total}
use Rattle.report_model.specs.Query.{AreLocated}
use Rattle.report_model.proofs.Located.{set_located}
use Rattle.query_lang.proofs.query.Query.of.Goals as goal

pub invariant_of-result : goal.invariant_of-result
invariant_of-result c =
    subst (λ (points : List InnerSink). Ascends inner_cmp points × AreLocated points) (sym c.each_once.ensures)
    (Ascends-set_of inner_total c.args.points.items, set_located c.args.points.items c.requires)
