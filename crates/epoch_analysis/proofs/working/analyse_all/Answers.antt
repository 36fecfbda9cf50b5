use Rattle.std.proofs.Common.{List, length, map, sym, ap, subst, ◌∙◌, arith}
use Rattle.std.specs.Prelude.{All}
use Rattle.std.specs.List.{AllZip, range_with_len}
use Rattle.std.proofs.lemmas.Result.{IfOk-weaker}
use Rattle.epoch_cut.proofs.Numbered.{length-numbered}
use Rattle.epoch_analysis.specs.Epochs.{BeginsAt}
use Rattle.epoch_analysis.specs.Analyses.{AnalysisView, IsSameAnalysis, fresh, number_of}
use Rattle.epoch_analysis.proofs.Epochs.{all_begin, all_found, count_of, numbers_of}
use Rattle.epoch_analysis.proofs.working.analyse_all.Goals as goal

pub into_tasks-requires : goal.into_tasks-requires
into_tasks-requires g c =
    let points = c.args.checkpoints.now in
    subst (All (BeginsAt points)) (sym c.in_ok-tickets.ensures) (all_begin c.args.query.now points c.args.cuts c.requires.beginnings)

pub new-requires-clause-numbers : goal.new-requires-clause-numbers
new-requires-clause-numbers g c κs within =
    let points = c.args.checkpoints.now in
    let made = c.in_ok-tasks.ensures ∙ ap (map (fresh points c.args.query.now)) c.in_ok-tickets.ensures in
    ap (map number_of) made
    ∙ numbers_of points c.args.query.now 0 0 c.args.cuts
    ∙ ap (range_with_len 0) (sym (ap length made ∙ count_of points c.args.query.now _ ∙ length-numbered 0 0 c.args.cuts))

pub new-requires-clause-count : goal.new-requires-clause-count
new-requires-clause-count g c κs within =
    let points = c.args.checkpoints.now in
    let n =
    ap length (c.in_ok-tasks.ensures ∙ ap (map (fresh points c.args.query.now)) c.in_ok-tickets.ensures)
    ∙ count_of points c.args.query.now _ ∙ length-numbered 0 0 c.args.cuts in
    let count = c.count-count.ensures in
    (omega (arith, n, count.is, count.in_range), omega (arith, n, count.is, count.in_range))

pub returns : goal.returns
returns g c =
    let points = c.args.checkpoints.now in
    let q = c.args.query.now in
    let board = c.in_ok-board.ensures ∙ c.in_ok-tasks.ensures ∙ ap (map (fresh points q)) c.in_ok-tickets.ensures in
    IfOk-weaker c.into_summaries.result _ _
    (λ all found. all_found points q _ c.in_ok-done.done.items all.items (subst (λ (tasks : List AnalysisView). AllZip IsSameAnalysis c.in_ok-done.done.items tasks) board c.in_ok-done.ensures.led) found)
    c.into_summaries.ensures
