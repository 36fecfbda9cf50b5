use Rattle.std.proofs.Common.{◌∙◌, List, ap, map, sym, subst}
use Rattle.std.specs.Prelude.{All}
use Rattle.flow_model.specs.declared.Loc.{Loc}
use Rattle.flow_model.specs.Ranges.{IsLocation}
use Rattle.taint_shadow.specs.Places.{kept}
use Rattle.epoch_summary.specs.Summaries.{summary_of}
use Rattle.summary_join.specs.Labels.{AllStand}
use Rattle.summary_join.specs.Pieces.{ArePieces}
use Rattle.summary_join.proofs.UpTo.{begun_after, ends_stand}
use Rattle.summary_join.proofs.joining.join_after.Goals as goal

pub label-requires-clause-cut : goal.label-requires-clause-cut
label-requires-clause-cut c = subst (AllStand c.args.first.labels) (sym c.in_ok-cut.ensures.labels) (ends_stand c.args.first c.in_ok-pieces.asked c.in_ok-pieces.ensures.located)

pub returns : goal.returns
returns c = λ run r.
    let es = map summary_of c.args.later.items in
    let cut = c.in_ok-cut.cut in
    let asked = c.in_ok-cut.ensures.asked in
    let found = c.in_ok-pieces in
    let pieces = found.pieces.items in
    c.label.ensures run
    (begun_after run es c.args.first cut pieces r (subst (λ (ls : List Loc). ArePieces es ls pieces) (sym asked) found.ensures.pieces) (subst (All IsLocation) (sym asked) found.ensures.located)
    (c.in_ok-cut.ensures.labels ∙ ap (map (kept c.args.first.places)) (sym asked)))
