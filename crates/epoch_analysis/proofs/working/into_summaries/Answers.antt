use Rattle.std.proofs.Common.{List, [], ◌∷◌, ◌++◌, length, sym, ap, subst, ◌∙◌, append_assoc, append-nil, arith, ◌≡◌}
use Rattle.std.specs.Prelude.{All}
use Rattle.std.specs.List.{AllZip}
use Rattle.std.specs.Vec.Iter.{into_iter_items}
use Rattle.std.proofs.lemmas.List.{nil_from_length}
use Rattle.std.proofs.lemmas.List.Elements.{All-tail}
use Rattle.epoch_summary.specs.declared.summary.Summary.{Summary}
use Rattle.epoch_analysis.specs.Analyses.{AnalysisView, HasEnded, IsFoundBy}
use Rattle.epoch_analysis.proofs.working.into_summaries.Goals as goal

pub loop-task-preserved : goal.loop-task-preserved
loop-task-preserved g c =
    let all : List Summary = c.loop-task.all.items in
    let found : Summary = c.in_ok-into_found.field-0 in
    let left : List AnalysisView = into_iter_items c.next.new.self in (
      All-tail HasEnded c.in-Some.task left (subst (All HasEnded) c.in-Some.ensures.steps.0 c.loop-task.invariant.0),
      λ (rest : List Summary) h.
          subst (λ (ss : List Summary). AllZip IsFoundBy c.args.tasks.items ss) (sym (append_assoc all (found ∷ []) rest) ∙ ap (λ (ss : List Summary). ss ++ rest) (sym c.in_ok-push.ensures.items))
          (c.loop-task.invariant.1 (found ∷ rest) (subst (λ (tasks : List AnalysisView). AllZip IsFoundBy tasks (found ∷ rest)) (sym c.in-Some.ensures.steps.0) (c.in_ok-into_found.ensures, h))),
    )

pub returns : goal.returns
returns g c =
    let all : List Summary = c.loop-task.all.items in
    let left : List AnalysisView = into_iter_items c.loop-task.task-iterator in
    let none : length left ≡ 0 = omega (arith, c.in-None.ensures.steps.0, c.loop-task.task-iterator.rest.ok) in
    subst (λ (ss : List Summary). AllZip IsFoundBy c.args.tasks.items ss) (append-nil all)
    (c.loop-task.invariant.1 [] (subst (λ (tasks : List AnalysisView). AllZip IsFoundBy tasks []) (sym (nil_from_length left none)) tt))
