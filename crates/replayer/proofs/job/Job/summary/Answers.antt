use Rattle.std.proofs.Common.{◌≡◌, length, arith, ap, sym, ◌∙◌}
use Rattle.log_model.specs.Moved.{received_of, written_of}
use Rattle.replay_model.proofs.Sizes.{received_of_below, written_of_below}
use Rattle.replayer.proofs.Summaries.{next_fits}
use Rattle.replayer.proofs.job.Job.summary.Goals as goal

pub overflow_add-read : goal.overflow_add-read
overflow_add-read c =
    let next = next_fits received_of c.records-records.result.now c.loop-call.call-index c.call-item.result c.loop-call-test.true c.call-item.is _ c.records-records.ensures c.self.invariant.is_job received_of_below in
    let size : length (received_of c.call-item.result) ≡ c.len.result = ap (λ x. length (received_of x)) c.in-Read.is ∙ sym c.len.ensures in
    let so_far = c.loop-call.invariant.read in
    omega arith

pub overflow_add-written : goal.overflow_add-written
overflow_add-written c =
    let next = next_fits written_of c.records-records.result.now c.loop-call.call-index c.call-item.result c.loop-call-test.true c.call-item.is _ c.records-records.ensures c.self.invariant.is_job written_of_below in
    let size : length (written_of c.call-item.result) ≡ c.len-in-Write.result = ap (λ x. length (written_of x)) c.in-Write.is ∙ sym c.len-in-Write.ensures in
    let so_far = c.loop-call.invariant.written in
    omega arith
