use Rattle.std.proofs.Common.{List, map, sym, subst}
use Rattle.flow_model.specs.declared.Loc.{Loc}
use Rattle.epoch_summary.specs.Summaries.{summary_of}
use Rattle.summary_join.specs.Pieces.{ArePieces}
use Rattle.summary_join.proofs.UpTo.{begun}
use Rattle.summary_join.proofs.joining.join.Goals as goal

pub returns : goal.returns
returns c = λ run r.
    let es = map summary_of c.args.summaries.items in
    let cut = c.before_all-cut in
    let pieces = c.in_ok-pieces.pieces.items in
    c.label.ensures run
    (begun run es c.new-labels.result cut.result pieces c.new.result.items r (subst (λ (ls : List Loc). ArePieces es ls pieces) (sym cut.ensures.asked) c.in_ok-pieces.ensures.pieces) cut.ensures.labels
    c.new.ensures.items)
