use Rattle.std.proofs.Common.{◌≡◌, take, length}
use Rattle.log_model.specs.Moved.{received}
use Rattle.replayer.proofs.job.Job.received.Given as goal

-- the bytes of the calls so far
abbrev pub invariant-loop-call : goal.invariant-loop-call
invariant-loop-call l = l.count ≡ length (received l.channel (take l.call-index l.self.log.records))
