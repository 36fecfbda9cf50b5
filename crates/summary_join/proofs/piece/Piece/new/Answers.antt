use Rattle.std.proofs.Common.{◌∙◌, List, ap, refl}
use Rattle.std.specs.List.{flat_map}
use Rattle.lists.specs.Sets.{has}
use Rattle.flow_model.specs.Orders.{loc_cmp}
use Rattle.taint_shadow.specs.declared.labels.Label.{Label}
use Rattle.epoch_summary.specs.Summaries.{nodes_of}
use Rattle.summary_join.specs.Needs.{roots, starts_of}
use Rattle.summary_join.proofs.Asking.{roots_want}
use Rattle.summary_join.proofs.piece.Piece.new.Goals as goal

pub returns-clause-piece : goal.returns-clause-piece
returns-clause-piece c =
    let e = c.args.summary in
    record {
      summary = refl;
      wants = λ l.
          c.in_ok-marks.ensures.asked l
          ∙ ap (λ (ks : List Label). has loc_cmp l (flat_map (starts_of (nodes_of e)) (roots e ks))) (c.deref.ensures.value ∙ c.in_ok-ends.ensures.labels)
          ∙ ap (has loc_cmp l) (roots_want e c.args.requests);
    }
