use Rattle.std.proofs.Common.{◌≡◌, ◌∙◌, ap, subst, sym}
use Rattle.std.specs.Ordering.{eq_by_cmp, is_eq}
use Rattle.std.specs.List.Sorted.{IsSorted}
use Rattle.std.proofs.lemmas.List.Filters.{dedup_is}
use Rattle.flow_model.specs.declared.InnerSink.{InnerSink}
use Rattle.flow_model.specs.Orders.{inner_cmp}
use Rattle.flow_model.proofs.Orders.{inner_total, inner_same}
use Rattle.flow_model.proofs.Derived.{inner_alike, inner_order_is}
use Rattle.flow_model.specs.contracts.InnerSinkOrd.TheImpl.Laws as derived
use Rattle.query_lang.proofs.PointLemmas.{sorted_each_once}
use Rattle.query_lang.proofs.points.each_once.Goals as goal

pub returns : goal.returns
returns c =
    let ys = c.sort_unstable.new.self.items in
    let sorted : IsSorted inner_cmp ys = subst (λ R. IsSorted R ys) (sym inner_order_is) c.sort_unstable.ensures.sorted in
    let ties : (x y : InnerSink) → _ ≡ eq_by_cmp inner_cmp x y = λ x y. derived.matches_eq-law x y ∙ ap is_eq (sym (inner_alike x y)) in
    sorted_each_once inner_total inner_same ties c.args.points.items ys c.dedup.new.self.items c.sort_unstable.ensures.permutation sorted (dedup_is _ ys c.dedup.new.self.items c.dedup.ensures.filtered)
