use Rattle.std.proofs.Common.{◌≡◌, List, [], ◌∷◌, ◌++◌, length, sym, ap, ◌∙◌, append_assoc, arith, length-append}
use Rattle.std.specs.Vec.Iter.{into_iter_items}
use Rattle.crossbeam_queue.specs.Passes.{view}
use Rattle.run_board.specs.declared.view.WorkerView.{WorkerView}
use Rattle.run_board.specs.Views.{filled, after_fill, whole_share}
use Rattle.run_board.proofs.Lists.{all_before}
use Rattle.run_board.proofs.KeepsRule.{fills, has_room}
use Rattle.run_board.proofs.FillOrder.{next_to_fill}
use Rattle.run_board.proofs.filling.fill.Goals as goal

pub push_as-requires-clause-rule : goal.push_as-requires-clause-rule
push_as-requires-clause-rule g c =
    let i = c.loop-task.invariant in
    let left = into_iter_items c.next.new.self in
    let next = next_to_fill g.T.Numbered.words.number c.args.tasks.items (view c.loop-task.pass).starts (into_iter_items c.loop-task.task-iterator) c.in-Some.task left i.tasks c.in-Some.ensures.steps.0 c.requires.numbers in
    let all = ap (λ (v : WorkerView g.row.T.Denot). v.shares) i.view_is in
    let reflexive = (g.met.T.Task g.world.𝓛 g.world.𝓜 g.world.𝓡 ((λ s x. x), (λ x. x), (λ x. x), λ x. x)).reflexive in (
      fills g.T.Numbered.words _ _ _ c.in-Some.task all next (reflexive c.in-Some.task),
      has_room g.T.Numbered.words _ _ (omega (arith, all)),
    )

pub loop-task-init : goal.loop-task-init
loop-task-init g c =
    let V : Type 0 = WorkerView g.row.T.Denot in
    let e = c.into_iter-task-iterator.ensures.into_iter_gives in
    let starts = ap (λ (v : V). v.starts) c.requires.opening in
    record {
      pass = c.requires.pass;
      view_is = c.requires.opening ∙ ap (λ (s : List g.row.T.Denot). filled whole_share s) (sym starts);
      tasks = ap (λ (s : List g.row.T.Denot). s ++ into_iter_items c.into_iter-task-iterator.result) starts ∙ e.0;
    }

pub loop-task-preserved : goal.loop-task-preserved
loop-task-preserved g c =
    let T : Type 0 = g.row.T.Denot in
    let V : Type 0 = WorkerView T in
    let i = c.loop-task.invariant in
    let before : List T = (view c.loop-task.pass).starts in
    let rest : List T = into_iter_items c.next.new.self in
    let told = c.in-Ok.ensures.rule in
    let starts = ap (λ (v : V). v.starts) told in
    record {
      pass = (c.push_as.ensures.queue.0 ∙ i.pass.0, c.push_as.ensures.queue.2 ∙ i.pass.1);
      view_is = told ∙ ap (λ (v : V). after_fill v c.in-Some.task) i.view_is ∙ ap (λ (s : List T). filled whole_share s) (sym starts);
      tasks = ap (λ (s : List T). s ++ rest) starts ∙ append_assoc before (c.in-Some.task ∷ []) rest ∙ ap (λ (l : List T). before ++ l) (sym c.in-Some.ensures.steps.0) ∙ i.tasks;
    }

pub returns-clause-filled : goal.returns-clause-filled
returns-clause-filled g c =
    let i = c.loop-task.invariant in
    let none : length (into_iter_items c.loop-task.task-iterator) ≡ 0 = omega (arith, c.in-None.ensures.steps.0, c.loop-task.task-iterator.rest.ok) in
    i.view_is ∙ ap (λ (s : List g.row.T.Denot). filled whole_share s) (all_before (view c.loop-task.pass).starts (into_iter_items c.loop-task.task-iterator) _ none i.tasks)

-- there is room for all tasks
pub unreachable-requires : goal.unreachable-requires
unreachable-requires g c =
    let full = c.in-Err.ensures.rule in
    let i = c.loop-task.invariant in
    let left = length-append (view c.loop-task.pass).starts (into_iter_items c.loop-task.task-iterator) in
    omega (arith, full.2.1, full.2.2, ap length i.tasks, left, ap length c.in-Some.ensures.steps.0, c.requires.capacity, c.args.tasks.ok)
