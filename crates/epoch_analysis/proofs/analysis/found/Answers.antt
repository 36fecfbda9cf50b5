use Rattle.std.proofs.Common.{◌-◌, subst}
use Rattle.replayer.specs.Jobs.{Job, trace_of}
use Rattle.epoch_model.specs.Summary.{IsSummary}
use Rattle.epoch_summary.specs.Summaries.{summary_of}
use Rattle.local_taint.specs.Following.{AreInRange}
use Rattle.epoch_analysis.proofs.analysis.found.Goals as goal

pub returns : goal.returns
returns c =
    let first = c.args.ticket.first in
    let count = c.args.ticket.past_last - first in
    let e = c.in_ok-summary.summary in
    record {
      summary = subst (λ (job : Job). IsSummary c.args.query.now (trace_of job) first count (summary_of e)) c.in_ok-cursor.ensures.job c.in_ok-summary.ensures.summary;
      in_range = subst (λ (job : Job). AreInRange (trace_of job) first count) c.in_ok-cursor.ensures.job c.in_ok-summary.ensures.in_range;
    }
