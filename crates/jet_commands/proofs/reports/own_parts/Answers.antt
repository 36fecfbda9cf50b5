use Rattle.std.proofs.Common.{ap, ◌∙◌, ◌∷◌, [], ◌++◌, List}
use Rattle.report_model.specs.Rows.{Row}
use Rattle.report_model.specs.Together.{only}
use Rattle.jet_commands.proofs.Reporting.{rows_more}
use Rattle.jet_commands.proofs.reports.own_parts.Goals as goal

pub loop-query-preserved : goal.loop-query-preserved
loop-query-preserved c = λ union steps is all.
    let q = c.query-item.result in
    rows_more c.args.queries.now union steps is c.loop-query.query-index q c.loop-query.parts.items c.push.new.self.items c.loop-query-test.true c.query-item.is c.own_part.ensures.points
    (c.loop-query.invariant union steps is all)
    (c.in_ok-push.ensures.items ∙ ap (λ (rs : List Row). c.loop-query.parts.items ++ rs ∷ []) (c.in_ok-own_part.ensures.rows ∙ ap (only q) all))
