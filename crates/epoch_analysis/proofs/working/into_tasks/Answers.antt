use Rattle.std.proofs.Common.{List, [], ◌∷◌, ◌++◌, map, sym, ap, subst, ◌∙◌, append_assoc}
use Rattle.std.specs.Prelude.{All}
use Rattle.std.specs.Vec.Iter.{into_iter_items}
use Rattle.std.proofs.lemmas.List.Elements.{All-tail}
use Rattle.epoch_cut.specs.Numbered.{NumberedEpoch}
use Rattle.epoch_analysis.specs.Epochs.{BeginsAt}
use Rattle.epoch_analysis.specs.Analyses.{AnalysisView, fresh}
use Rattle.epoch_analysis.proofs.working.into_tasks.Goals as goal

pub loop-ticket-preserved : goal.loop-ticket-preserved
loop-ticket-preserved g c =
    let points = c.args.checkpoints.now in
    let new = fresh points c.args.query.now in
    let made : List AnalysisView = c.loop-ticket.tasks.items in
    let rest : List NumberedEpoch = into_iter_items c.next.new.self in (
      ap (λ (tasks : List AnalysisView). tasks ++ map new rest) (c.in_ok-push.ensures.items ∙ ap (λ (a : AnalysisView). made ++ a ∷ []) c.new.ensures)
          ∙ append_assoc made (new c.in-Some.ticket ∷ []) (map new rest)
          ∙ ap (λ (es : List NumberedEpoch). made ++ map new es) (sym c.in-Some.ensures.steps.0)
          ∙ c.loop-ticket.invariant.0,
      All-tail (BeginsAt points) c.in-Some.ticket rest (subst (All (BeginsAt points)) c.in-Some.ensures.steps.0 c.loop-ticket.invariant.1),
    )
