use Rattle.report_model.specs.Grammar.{lane_point}
use Rattle.query_lang.proofs.PointLemmas.{one_more}
use Rattle.query_lang.proofs.points.add_register.Goals as goal

pub loop-lane-preserved : goal.loop-lane-preserved
loop-lane-preserved c =
    let before = c.loop-lane in
    record {
      added = one_more (lane_point c.args.number c.args.time) c.args.points.now.items before.points.items c.push.new.self.items before.lane before.invariant.added c.in_ok-push.ensures.items;
    }
