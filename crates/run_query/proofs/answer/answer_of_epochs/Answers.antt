use Rattle.std.proofs.Common.{arith}
use Rattle.run_query.proofs.Collected.{at_beginnings, collected_of_job, few_asked, answered}
use Rattle.run_query.proofs.answer.answer_of_epochs.Goals as goal

pub collected-requires-clause-checkpoints : goal.collected-requires-clause-checkpoints
collected-requires-clause-checkpoints g c =
    at_beginnings c.args.job.now c.args.query.now c.args.cuts c.args.checkpoints.now c.requires.checkpoints c.requires.cuts

pub answer_with-requires-clause-rows : goal.answer_with-requires-clause-rows
answer_with-requires-clause-rows g c =
    let is = collected_of_job c.args.job.now c.args.query.now c.args.cuts c.args.checkpoints.now c.requires.checkpoints c.in_ok-collected.collected c.in_ok-collected.ensures in
    is.rows

pub answer_with-requires-clause-few : goal.answer_with-requires-clause-few
answer_with-requires-clause-few g c =
    let is = collected_of_job c.args.job.now c.args.query.now c.args.cuts c.args.checkpoints.now c.requires.checkpoints c.in_ok-collected.collected c.in_ok-collected.ensures in
    few_asked c.args.job.now c.args.query.now c.args.cuts c.in_ok-collected.collected is (omega (arith, c.count-count.ensures.is, c.count-count.ensures.in_range))

pub returns : goal.returns
returns g c =
    let is = collected_of_job c.args.job.now c.args.query.now c.args.cuts c.args.checkpoints.now c.requires.checkpoints c.in_ok-collected.collected c.in_ok-collected.ensures in
    answered c.args.job.now c.args.query.now c.args.cuts c.in_ok-collected.collected is c.answer_with.result
    c.answer_with.ensures.report c.answer_with.ensures.crossed c.answer_with.ensures.events
