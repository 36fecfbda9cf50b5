use Rattle.std.proofs.Common.{subst}
use Rattle.replayer.specs.Jobs.{Job, trace_of}
use Rattle.epoch_summary.specs.Summaries.{summary_of}
use Rattle.epoch_node.specs.Keeping.{IsFound}
use Rattle.epoch_node.proofs.beginning.summarize.Goals as goal

pub returns-in-Ok-clause-found : goal.returns-in-Ok-clause-found
returns-in-Ok-clause-found c =
    subst (λ (job : Job). IsFound c.args.query.now (trace_of job) c.args.ticket (summary_of c.in-Ok.summary)) c.in_ok-cursor.ensures.job
    (record { summary = c.in-Ok.ensures.summary; in_range = c.in-Ok.ensures.in_range })
