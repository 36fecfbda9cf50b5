use Rattle.std.proofs.Common.{◌≡◌, take}
use Rattle.log_model.specs.Moved.{received}
use Rattle.replay_log.proofs.writing.received_on.Given as goal

-- the bytes of the calls so far
abbrev pub invariant-loop-call : goal.invariant-loop-call
invariant-loop-call l = l.bytes.items ≡ received l.channel (take l.call-index l.calls)
