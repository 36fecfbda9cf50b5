use Rattle.std.proofs.Common.{◌≡◌, List, [], ◌∷◌, ◌++◌, length, sym, ap, ◌∙◌, append_assoc, append-nil, arith}
use Rattle.std.specs.Vec.Iter.{into_iter_items}
use Rattle.std.proofs.lemmas.List.{nil_from_length}
use Rattle.epoch_node.specs.Nodes.{NodeView}
use Rattle.epoch_turns.proofs.turning.into_nodes.Goals as goal

pub loop-task-preserved : goal.loop-task-preserved
loop-task-preserved g c =
    let made : List NodeView = c.loop-task.nodes.items in
    let rest : List NodeView = into_iter_items c.next.new.self in
    ap (λ (ns : List NodeView). ns ++ rest) (c.in_ok-push.ensures.items ∙ ap (λ (n : NodeView). made ++ n ∷ []) c.into_node.ensures)
    ∙ append_assoc made (c.in-Some.task ∷ []) rest
    ∙ ap (λ (ns : List NodeView). made ++ ns) (sym c.in-Some.ensures.steps.0) ∙ c.loop-task.invariant

pub returns : goal.returns
returns g c =
    let made : List NodeView = c.loop-task.nodes.items in
    let rest : List NodeView = into_iter_items c.loop-task.task-iterator in
    let none : length rest ≡ 0 = omega (arith, c.in-None.ensures.steps.0, c.loop-task.task-iterator.rest.ok) in
    sym (append-nil made) ∙ ap (λ (ns : List NodeView). made ++ ns) (sym (nil_from_length rest none)) ∙ c.loop-task.invariant
