use Rattle.std.proofs.Common.{◌≡◌, ◌+◌, List, [], ◌∷◌, ◌++◌, map, length, vec_len, length-append, append_assoc, ap, ap₂, sym, refl, subst, ◌∙◌, true, arith}
use Rattle.std.proofs.lemmas.List.{length-map, map_push, nil_from_length}
use Rattle.std.specs.List.{AllByRecursion}
use Rattle.std.specs.Vec.Iter.{into_iter_items}
use Rattle.epoch_cut.specs.Numbered.{NumberedEpoch}
use Rattle.epoch_cut.proofs.Numbered.{length-numbered}
use Rattle.checkpoints.specs.Points.{beginnings}
use Rattle.epoch_node.specs.Cores.{CoreView, CanStart, core_of}
use Rattle.epoch_layout.specs.Layouts.{CutRun, points_of}
use Rattle.epoch_layout.proofs.Tickets.{all_can_start, some_epoch}
use Rattle.epoch_layout.proofs.Layouts.{can_start, at_place}
use Rattle.jet_core.specs.declared.joints.Joint.{Joint}
use Rattle.jet_core.specs.Lines.{new_cores}
use Rattle.jet_core.proofs.Laying.{front_push, last_push, front_count, new_push, made_at, first_made}
use Rattle.jet_core.proofs.line.lay_out.Goals as goal

pub unreachable-requires : goal.unreachable-requires
unreachable-requires g c =
    let n = ap length c.in_ok-tickets.ensures ∙ length-numbered 0 0 c.args.cuts in
    let none = ap length c.in_default.ensures.items in
    omega (arith, n, some_epoch _ c.args.cuts c.requires.cutting, c.in_default.ensures.cases)

pub new-requires : goal.new-requires
new-requires g c =
    let run : CutRun = record { job = c.args.checkpoints.now.job; query = c.args.query.now; cuts = c.args.cuts } in
    let i = c.loop-ticket.invariant in
    let e = c.in-Some-ticket.ticket in
    let split = ap (λ (es : List NumberedEpoch). i.done ++ (es ++ c.in-Some.last ∷ [])) (sym c.in-Some-ticket.ensures.steps.0) ∙ i.split in
    can_start c.args.checkpoints.now (beginnings c.args.cuts) e c.requires.times
    (at_place (CanStart (points_of run)) i.done e _ (subst (AllByRecursion (CanStart (points_of run))) (sym split) (all_can_start run c.requires.cutting)))

pub loop-ticket-preserved : goal.loop-ticket-preserved
loop-ticket-preserved g c =
    let run : CutRun = record { job = c.args.checkpoints.now.job; query = c.args.query.now; cuts = c.args.cuts } in
    let i = c.loop-ticket.invariant in
    let e = c.in-Some-ticket.ticket in
    let rest = into_iter_items c.next.new.self in
    let split = ap (λ (es : List NumberedEpoch). i.done ++ (es ++ c.in-Some.last ∷ [])) (sym c.in-Some-ticket.ensures.steps.0) ∙ i.split in
    let count : vec_len c.loop-ticket.cores ≡ length i.done =
    c.loop-ticket.cores.ok.0 ∙ sym (length-map c.loop-ticket.cores.items (core_of {G = g.row.G.Denot})) ∙ ap length i.cores_are ∙ front_count run true i.done in
    let made = c.in_ok-new.ensures.made ∙ made_at run c.args.checkpoints.now e _ _ _ refl c.requires.times (c.is_empty-first.ensures ∙ first_made i.done (vec_len c.loop-ticket.cores) count) in
    record {
      done = i.done ++ e ∷ [];
      inner = i.inner ++ c.in_ok-new-2.field-0 ∷ [];
      split = append_assoc i.done (e ∷ []) (rest ++ c.in-Some.last ∷ []) ∙ split;
      count = omega (arith, i.count, length-append i.inner (c.in_ok-new-2.field-0 ∷ []), length-append i.done (e ∷ []));
      cores_are = ap (map (core_of {G = g.row.G.Denot})) c.in_ok-push-2.ensures.items ∙ map_push (core_of {G = g.row.G.Denot}) c.loop-ticket.cores.items c.in_ok-new.field-0
          ∙ ap₂ (λ (cs : List CoreView) (d : CoreView). cs ++ d ∷ []) i.cores_are made ∙ sym (front_push run true i.done e);
      joints_are = c.in_ok-push-3.ensures.items ∙ ap (λ (js : List Joint). js ++ c.in_ok-new-2.field-0 ∷ []) i.joints_are;
      new = new_push c.args.capacity i.inner c.in_ok-new-2.field-0 i.new c.in_ok-new-2.ensures;
    }

pub new-requires-2 : goal.new-requires-2
new-requires-2 g c =
    let run : CutRun = record { job = c.args.checkpoints.now.job; query = c.args.query.now; cuts = c.args.cuts } in
    let i = c.loop-ticket.invariant in
    let e = c.in-Some.last in
    let none : length (into_iter_items c.loop-ticket.ticket-iterator) ≡ 0 = omega (arith, c.in-None.ensures.steps.0, c.loop-ticket.ticket-iterator.rest.ok) in
    let split =
    ap (λ (es : List NumberedEpoch). i.done ++ (es ++ e ∷ [])) (sym (nil_from_length (into_iter_items c.loop-ticket.ticket-iterator) none)) ∙ i.split in
    can_start c.args.checkpoints.now (beginnings c.args.cuts) e c.requires.times
    (at_place (CanStart (points_of run)) i.done e [] (subst (AllByRecursion (CanStart (points_of run))) (sym split) (all_can_start run c.requires.cutting)))

pub returns : goal.returns
returns g c =
    let run : CutRun = record { job = c.args.checkpoints.now.job; query = c.args.query.now; cuts = c.args.cuts } in
    let i = c.loop-ticket.invariant in
    let e = c.in-Some.last in
    let none : length (into_iter_items c.loop-ticket.ticket-iterator) ≡ 0 = omega (arith, c.in-None.ensures.steps.0, c.loop-ticket.ticket-iterator.rest.ok) in
    let split =
    ap (λ (es : List NumberedEpoch). i.done ++ (es ++ e ∷ [])) (sym (nil_from_length (into_iter_items c.loop-ticket.ticket-iterator) none)) ∙ i.split in
    let count : vec_len c.loop-ticket.cores ≡ length i.done =
    c.loop-ticket.cores.ok.0 ∙ sym (length-map c.loop-ticket.cores.items (core_of {G = g.row.G.Denot})) ∙ ap length i.cores_are ∙ front_count run true i.done in
    let made = c.in_ok-new-3.ensures.made ∙ made_at run c.args.checkpoints.now e _ _ _ refl c.requires.times (c.is_empty-first-2.ensures ∙ first_made i.done (vec_len c.loop-ticket.cores) count) in
    let many : length (map (core_of {G = g.row.G.Denot}) c.push-2.new.self.items) ≡ length c.loop-ticket.cores.items + 1 =
    length-map c.push-2.new.self.items (core_of {G = g.row.G.Denot}) ∙ ap length c.in_ok-push-4.ensures.items ∙ length-append c.loop-ticket.cores.items (c.in_ok-new-3.field-0 ∷ []) in
    let same = c.loop-ticket.cores.ok.0 in
    record {
      cutting = c.requires.cutting;
      located = c.points-points.ensures.located;
      holds_some = omega (arith, c.get-items.ensures.number, c.get-items.ensures.range.0);
      cores_are = ap (map (core_of {G = g.row.G.Denot})) c.in_ok-push-4.ensures.items ∙ map_push (core_of {G = g.row.G.Denot}) c.loop-ticket.cores.items c.in_ok-new-3.field-0
          ∙ ap₂ (λ (cs : List CoreView) (d : CoreView). cs ++ d ∷ []) i.cores_are made ∙ sym (last_push run true i.done e) ∙ ap (new_cores run true) split;
      inner = i.inner;
      new = i.new;
      count = omega (arith, i.count, count, many, same);
      joints_are = c.in_ok-push-5.ensures.items ∙ ap₂ (λ (js : List Joint) (j : Joint). js ++ j ∷ []) i.joints_are c.none-2.ensures;
    }
