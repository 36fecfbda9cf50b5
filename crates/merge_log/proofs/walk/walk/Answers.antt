use Rattle.std.proofs.Common.{◌≡◌, ◌<◌, [], ℕ, List, length, subst, arith}
use Rattle.std.proofs.lemmas.List.{nil_from_length}
use Rattle.merge_log.specs.Walk.{terms_of}
use Rattle.merge_log.proofs.Marks.{IsVisit, visit_length}
use Rattle.merge_log.specs.declared.finding.Leaves.TheVariants.{Run, Start}
use Rattle.merge_log.proofs.Terms.{terms_step}
use Rattle.merge_log.proofs.Walking.{IsWalk, none_open, popped, leaf_step, source_under, union_step, union_cost, walk_ends}
use Rattle.merge_log.proofs.walk.walk.Goals as goal

pub entry-requires-clause-above_0 : goal.entry-requires-clause-above_0
entry-requires-clause-above_0 c = (popped _ _ _ _ _ _ _ _ c.in-Some.ensures.items c.loop-next.invariant.walk).0.above_0

pub entry-requires-clause-stands : goal.entry-requires-clause-stands
entry-requires-clause-stands c = (popped _ _ _ _ _ _ _ _ c.in-Some.ensures.items c.loop-next.invariant.walk).0.stands

pub loop-next-preserved-in-Continue-branch-2 : goal.loop-next-preserved-in-Continue-branch-2
loop-next-preserved-in-Continue-branch-2 c = record {
  room = c.loop-next.invariant.room;
  walk = leaf_step _ _ _ _ _ _ _ _ _ _ (Run c.of_byte.result) c.in-Some.ensures.items c.in-Source.ensures.at tt
      (source_under c.args.log.now c.in-Some.next _ _ c.in-Source.ensures.at c.of_byte.ensures) c.in_ok-add-in-Source.ensures c.loop-next.invariant.walk;
}

pub loop-next-preserved-in-Continue-branch-3 : goal.loop-next-preserved-in-Continue-branch-3
loop-next-preserved-in-Continue-branch-3 c = record {
  room = c.loop-next.invariant.room;
  walk =
      leaf_step _ _ _ _ _ _ _ _ _ _ (Run
      (record { channel = c.in-Run.channel; first = c.in-Run.first; last = c.in-Run.last })) c.in-Some.ensures.items c.in-Run.ensures.at tt
      (terms_step c.args.log.now c.in-Some.next _ c.in-Run.ensures.at tt) c.in_ok-add-in-Run.ensures c.loop-next.invariant.walk;
}

pub loop-next-preserved-in-Continue-branch-4 : goal.loop-next-preserved-in-Continue-branch-4
loop-next-preserved-in-Continue-branch-4 c = record {
  room = c.loop-next.invariant.room;
  walk = leaf_step _ _ _ _ _ _ _ _ _ _ (Start c.in-Start.loc) c.in-Some.ensures.items c.in-Start.ensures.at tt
      (terms_step c.args.log.now c.in-Some.next _ c.in-Start.ensures.at tt) c.in_ok-add-in-Start.ensures c.loop-next.invariant.walk;
}

pub visit-requires-in-Union-2 : goal.visit-requires-in-Union-2
visit-requires-in-Union-2 c =
    let u = (popped _ _ _ _ _ _ _ _ c.in-Some.ensures.items c.loop-next.invariant.walk).0.stands in
    let one : IsVisit _ _ _ _ _ _ _ = record { marked = c.visit-in-Union.ensures.marked; same_round = c.visit-in-Union.ensures.round; stacked = c.in_ok-visit-in-Union.ensures.stack } in
    omega (arith, u, c.loop-next.invariant.room, c.in-Union.ensures.before, visit_length one)

pub loop-next-smaller : goal.loop-next-smaller
loop-next-smaller c =
    let u = (popped _ _ _ _ _ _ _ _ c.in-Some.ensures.items c.loop-next.invariant.walk).0.stands in
    let one : IsVisit _ _ _ _ _ _ _ = record { marked = c.visit-in-Union.ensures.marked; same_round = c.visit-in-Union.ensures.round; stacked = c.in_ok-visit-in-Union.ensures.stack } in
    let two : IsVisit _ _ _ _ _ _ _ = record { marked = c.visit-in-Union-2.ensures.marked; same_round = c.visit-in-Union-2.ensures.round; stacked = c.in_ok-visit-in-Union-2.ensures.stack } in
    let a_in : c.in-Union.left < length c.loop-next.marks.last.items = omega (arith, u, c.loop-next.invariant.room, c.in-Union.ensures.before) in
    let b_in : c.in-Union.right < length c.visit-in-Union.new.marks.last.items = omega (arith, u, c.loop-next.invariant.room, c.in-Union.ensures.before, visit_length one) in
    union_cost _ _ _ _ _ _ _ _ _ _ _ _ _ c.in-Some.ensures.items a_in b_in one two

pub loop-next-preserved : goal.loop-next-preserved
loop-next-preserved c =
    let one : IsVisit _ _ _ _ _ _ _ = record { marked = c.visit-in-Union.ensures.marked; same_round = c.visit-in-Union.ensures.round; stacked = c.in_ok-visit-in-Union.ensures.stack } in
    let two : IsVisit _ _ _ _ _ _ _ = record { marked = c.visit-in-Union-2.ensures.marked; same_round = c.visit-in-Union-2.ensures.round; stacked = c.in_ok-visit-in-Union-2.ensures.stack } in
    record {
      room = omega (arith, c.loop-next.invariant.room, visit_length one, visit_length two);
      walk = union_step _ _ _ _ _ _ _ _ _ _ _ _ _ _ _ _ c.in-Some.ensures.items c.loop-next.invariant.room c.in-Union.ensures.at c.in-Union.ensures.before one two c.loop-next.invariant.walk;
    }

pub returns : goal.returns
returns c =
    let empty : c.loop-next.stack.items ≡ [] = nil_from_length c.loop-next.stack.items (omega (arith, c.in_default.ensures.cases.0, c.loop-next.stack.ok)) in
    let walk = subst (λ (s : List ℕ). IsWalk c.args.log.now c.args.root c.loop-next.marks.round c.loop-next.marks.last.items s (terms_of c.loop-next.found) none_open) empty c.loop-next.invariant.walk in
    record { found = walk_ends _ _ _ _ _ c.form.ensures.log walk }
