use Rattle.std.proofs.Common.{◌∙◌, ap, sym, subst, List}
use Rattle.std.specs.Prelude.{◌≡◌, IfOk}
use Rattle.lists.specs.Sets.{set_of}
use Rattle.report_model.specs.Rows.{Row, row_cmp, rows_as_written}
use Rattle.replayer.specs.Jobs.{trace_of}
use Rattle.checkpoints.specs.Points.{CheckpointsAt}
use Rattle.sink_collect.specs.Distinct.{AreDistinct}
use Rattle.run_query.proofs.Collected.{at_beginnings}
use Rattle.jet_core.proofs.whole.joined.Goals as goal

pub rows_at_once-requires-after_bounds : goal.rows_at_once-requires-after_bounds
rows_at_once-requires-after_bounds g c κs within =
    at_beginnings c.args.job.now c.args.query.now c.args.cuts c.in_ok-checkpoints.checkpoints c.in_ok-checkpoints.ensures c.requires

pub gather-requires : goal.gather-requires
gather-requires g c =
    let rows = c.in_ok-sets.ensures ∙ ap (λ (points : CheckpointsAt). rows_as_written c.args.query.now (trace_of points.job)) c.in_ok-checkpoints.ensures in
    subst AreDistinct (sym rows) c.rows_are_distinct.ensures

pub returns : goal.returns
returns g c =
    let rows = c.in_ok-sets.ensures ∙ ap (λ (points : CheckpointsAt). rows_as_written c.args.query.now (trace_of points.job)) c.in_ok-checkpoints.ensures in
    subst (λ (rs : List Row). IfOk c.gather.result (λ report. report ≡ set_of row_cmp rs)) rows c.gather.ensures
