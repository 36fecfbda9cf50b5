use Rattle.std.proofs.Common.{◌∙◌, ap, arith}
use Rattle.run_query.specs.Crossings.{numbered}
use Rattle.run_query.proofs.Collected.{at_beginnings, collected_of_job, few_asked}
use Rattle.jet_core.proofs.whole.round_robin.Goals as goal

pub round_robin-requires-after_bounds : goal.round_robin-requires-after_bounds
round_robin-requires-after_bounds g c κs within =
    at_beginnings c.args.job.now c.args.query.now c.args.cuts c.in_ok-checkpoints.checkpoints c.in_ok-checkpoints.ensures c.requires.cuts

pub answer_with-requires : goal.answer_with-requires
answer_with-requires g c =
    let is = collected_of_job c.args.job.now c.args.query.now c.args.cuts c.in_ok-checkpoints.checkpoints c.in_ok-checkpoints.ensures c.in_ok-collected.collected c.in_ok-collected.ensures in
    record {
      rows = is.rows;
      few =
          few_asked c.args.job.now c.args.query.now c.args.cuts c.in_ok-collected.collected is
          (omega (arith, c.count-count.ensures.is, c.count-count.ensures.in_range));
    }

pub returns : goal.returns
returns g c =
    let is = collected_of_job c.args.job.now c.args.query.now c.args.cuts c.in_ok-checkpoints.checkpoints c.in_ok-checkpoints.ensures c.in_ok-collected.collected c.in_ok-collected.ensures in
    record {
      report = c.in_ok-report.ensures.report;
      crossed = c.in_ok-report.ensures.crossed ∙ ap (numbered 1) is.crossed;
      events = c.in_ok-report.ensures.events ∙ is.events;
    }
