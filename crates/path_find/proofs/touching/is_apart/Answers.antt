use Rattle.std.proofs.Common.{sym, subst}
use Rattle.flow_rule.specs.declared.shape.Shape.{Shape}
use Rattle.flow_rule.specs.Shapes.{targets_of}
use Rattle.path_find.specs.Carriers.{HasNothing}
use Rattle.path_find.specs.Trails.{IsApart}
use Rattle.path_find.proofs.Apart.{mixed_apart, store_apart}
use Rattle.path_find.proofs.touching.is_apart.Goals as goal

pub returns-then-are_apart-2 : goal.returns-then-are_apart-2
returns-then-are_apart-2 c = λ none.
    let P = HasNothing c.args.carriers.now in
    let lanes = c.are_apart-in-Store.ensures c.if-are_apart-2.true in
    subst (λ (s : Shape). IsApart P (targets_of s)) (sym c.in-Store.is)
    (store_apart P c.in-Store.rs c.in-Store.base c.in-Store.place c.in-Store.size (λ i. (lanes i).0) (λ i. (lanes i).1) (c.has_no_byte-then-are_apart-2.ensures none))

pub returns-in-Mixed : goal.returns-in-Mixed
returns-in-Mixed c = λ none.
    let P = HasNothing c.args.carriers.now in
    let lanes = c.are_apart.ensures none in
    subst (λ (s : Shape). IsApart P (targets_of s)) (sym c.in-Mixed.is)
    (mixed_apart P c.in-Mixed.mixing c.in-Mixed.rd c.in-Mixed.rs1 c.in-Mixed.rs2 (λ i. (lanes i).0) (λ i. (lanes i).1) (λ i. (lanes i).2))
