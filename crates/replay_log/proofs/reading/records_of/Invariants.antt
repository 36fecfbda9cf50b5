use Rattle.std.proofs.Common.{◌-◌, length}
use Rattle.log_model.specs.Reading.{body_of}
use Rattle.replay_log.proofs.Loop.{IsReadTo}
use Rattle.replay_log.proofs.reading.records_of.Given as goal

abbrev pub invariant-loop-first : goal.invariant-loop-first
invariant-loop-first l = IsReadTo l.version l.size (body_of l.version l.size 0 (l.size - length l.bytes) l.fn.left l.bytes) l.records.items l.least l.left l.rest

abbrev pub decreases-loop-first : goal.decreases-loop-first
decreases-loop-first l = length l.rest
