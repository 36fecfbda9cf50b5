use Rattle.std.proofs.Common.{◌≡◌, Some, None, List, [], ◌∷◌, ◌++◌, length, length-append, append_assoc, ap, ap₂, sym, refl, subst, ◌∙◌, arith}
use Rattle.std.proofs.lemmas.List.{nil_from_length}
use Rattle.std.specs.Prelude.{option_map}
use Rattle.std.specs.List.{AllByRecursion}
use Rattle.std.specs.Vec.Iter.{into_iter_items}
use Rattle.epoch_cut.specs.Numbered.{NumberedEpoch}
use Rattle.epoch_cut.proofs.Numbered.{length-numbered}
use Rattle.checkpoints.specs.Points.{beginnings}
use Rattle.epoch_node.specs.Cores.{CanStart}
use Rattle.epoch_node.specs.Nodes.{NodeView}
use Rattle.epoch_layout.specs.Layouts.{CutRun, points_of, before_end, laid_out}
use Rattle.epoch_layout.proofs.Tickets.{all_can_start, some_epoch}
use Rattle.epoch_layout.proofs.Layouts.{can_start, at_place, new_between, last_of, last_push, push_open, push_last}
use Rattle.epoch_layout.proofs.layout.lay_out.Goals as goal

pub unreachable-requires : goal.unreachable-requires
unreachable-requires g c =
    let n = ap length c.in_ok-tickets.ensures ∙ length-numbered 0 0 c.args.cuts in
    let none = ap length c.in_default.ensures.items in
    omega (arith, n, some_epoch _ c.args.cuts c.requires.cutting, c.in_default.ensures.cases)

pub make_node-requires-clause-starts : goal.make_node-requires-clause-starts
make_node-requires-clause-starts g c =
    let run : CutRun = record { job = c.args.checkpoints.now.job; query = c.args.query.now; cuts = c.args.cuts } in
    let i = c.loop-ticket.invariant in
    let e = c.in-Some-ticket.ticket in
    let split = ap (λ (es : List NumberedEpoch). i.done ++ (es ++ c.in-Some.last ∷ [])) (sym c.in-Some-ticket.ensures.steps.0) ∙ i.split in
    can_start c.args.checkpoints.now (beginnings c.args.cuts) e c.requires.times
    (at_place (CanStart (points_of run)) i.done e _ (subst (AllByRecursion (CanStart (points_of run))) (sym split) (all_can_start run c.requires.cutting)))

pub make_node-requires-2-clause-starts : goal.make_node-requires-2-clause-starts
make_node-requires-2-clause-starts g c =
    let run : CutRun = record { job = c.args.checkpoints.now.job; query = c.args.query.now; cuts = c.args.cuts } in
    let i = c.loop-ticket.invariant in
    let e = c.in-Some.last in
    let none : length (into_iter_items c.loop-ticket.ticket-iterator) ≡ 0 = omega (arith, c.in-None.ensures.steps.0, c.loop-ticket.ticket-iterator.rest.ok) in
    let split =
    ap (λ (es : List NumberedEpoch). i.done ++ (es ++ e ∷ [])) (sym (nil_from_length (into_iter_items c.loop-ticket.ticket-iterator) none)) ∙ i.split in
    can_start c.args.checkpoints.now (beginnings c.args.cuts) e c.requires.times
    (at_place (CanStart (points_of run)) i.done e [] (subst (AllByRecursion (CanStart (points_of run))) (sym split) (all_can_start run c.requires.cutting)))

pub loop-ticket-preserved : goal.loop-ticket-preserved
loop-ticket-preserved g c =
    let run : CutRun = record { job = c.args.checkpoints.now.job; query = c.args.query.now; cuts = c.args.cuts } in
    let i = c.loop-ticket.invariant in
    let e = c.in-Some-ticket.ticket in
    let rest = into_iter_items c.next.new.self in
    let joined = c.in_ok-after.ensures in
    let l = joined.0 in
    let split = ap (λ (es : List NumberedEpoch). i.done ++ (es ++ c.in-Some.last ∷ [])) (sym c.in-Some-ticket.ensures.steps.0) ∙ i.split in
    let node = c.in_ok-make_node.ensures ∙ new_between c.args.capacity run c.args.checkpoints.now e c.loop-ticket.before (Some c.in_ok-after.after) (last_of None i.links) (Some l) refl c.requires.times i.before_is (ap Some joined.1) in
    record {
      done = i.done ++ e ∷ [];
      links = i.links ++ l ∷ [];
      split = append_assoc i.done (e ∷ []) (rest ++ c.in-Some.last ∷ []) ∙ split;
      count = omega (arith, i.count, length-append i.links (l ∷ []), length-append i.done (e ∷ []));
      are = c.in_ok-push.ensures.items ∙ ap₂ (λ (ns : List NodeView) (n : NodeView). ns ++ n ∷ []) i.are node ∙ sym (push_open c.args.capacity run None i.done i.links e l i.count);
      before_is = ap Some joined.2 ∙ ap (option_map (before_end c.args.capacity)) (sym (last_push None i.links l));
    }

pub returns : goal.returns
returns g c =
    let run : CutRun = record { job = c.args.checkpoints.now.job; query = c.args.query.now; cuts = c.args.cuts } in
    let i = c.loop-ticket.invariant in
    let e = c.in-Some.last in
    let none : length (into_iter_items c.loop-ticket.ticket-iterator) ≡ 0 = omega (arith, c.in-None.ensures.steps.0, c.loop-ticket.ticket-iterator.rest.ok) in
    let split =
    ap (λ (es : List NumberedEpoch). i.done ++ (es ++ e ∷ [])) (sym (nil_from_length (into_iter_items c.loop-ticket.ticket-iterator) none)) ∙ i.split in
    let node = c.in_ok-make_node-2.ensures ∙ new_between c.args.capacity run c.args.checkpoints.now e c.loop-ticket.before None (last_of None i.links) None refl c.requires.times i.before_is refl in
    record {
      cutting = c.requires.cutting;
      located = c.points-points.ensures.located;
      links = i.links;
      count = omega (arith, i.count, length-append i.done (e ∷ []), ap length split);
      are = c.in_ok-push-2.ensures.items ∙ ap₂ (λ (ns : List NodeView) (n : NodeView). ns ++ n ∷ []) i.are node ∙ sym (push_last c.args.capacity run None i.done i.links e i.count)
          ∙ ap (λ (es : List NumberedEpoch). laid_out c.args.capacity run None es i.links) split;
    }
