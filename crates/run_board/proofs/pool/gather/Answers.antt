use Rattle.std.proofs.Common.{◌≡◌, List, [], ◌∷◌, ◌++◌, length, refl, sym, ap, ◌∙◌, append_assoc, arith}
use Rattle.std.specs.Vec.Iter.{into_iter_items}
use Rattle.run_board.proofs.Lists.{all_before}
use Rattle.run_board.proofs.pool.gather.Goals as goal

pub loop-task-init : goal.loop-task-init
loop-task-init g c =
    let e = c.into_iter-task-iterator.ensures.into_iter_gives in
    record {
      items = ap (λ (l : List g.row.T.Denot). c.args.finished.now.items ++ l) e.0;
      capacity = refl;
      room = omega (arith, c.requires, e.1);
    }

pub loop-task-preserved : goal.loop-task-preserved
loop-task-preserved g c =
    let T : Type 0 = g.row.T.Denot in
    let i = c.loop-task.invariant in
    let s = c.in-Some.ensures.steps in
    let old : List T = c.loop-task.finished.items in
    let rest : List T = into_iter_items c.next.new.self in
    let p = c.push_reserved.ensures in
    record {
      items = ap (λ (l : List T). l ++ rest) p.items ∙ append_assoc old (c.in-Some.task ∷ []) rest ∙ ap (λ (l : List T). old ++ l) (sym s.0) ∙ i.items;
      capacity = p.capacity ∙ i.capacity;
      room = omega (arith, i.room, s.1, p.len, p.capacity);
    }

pub returns-clause-items : goal.returns-clause-items
returns-clause-items g c =
    let none : length (into_iter_items c.loop-task.task-iterator) ≡ 0 = omega (arith, c.in-None.ensures.steps.0, c.loop-task.task-iterator.rest.ok) in
    all_before c.loop-task.finished.items (into_iter_items c.loop-task.task-iterator) _ none c.loop-task.invariant.items
