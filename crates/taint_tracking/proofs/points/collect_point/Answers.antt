use Rattle.report_model.specs.Rows.{point_sink}
use Rattle.taint_tracking.proofs.Notes.{one_note}
use Rattle.taint_tracking.proofs.points.collect_point.Goals as goal

pub returns : goal.returns
returns c =
    one_note c.args.places.now (point_sink c.args.point) c.args.sinks.now.items c.push.new.self.items c.get.result c.get.ensures c.in_ok-push.ensures.items
