use Rattle.std.proofs.Common.{◌≡◌, ◌+◌, [], length, take, drop}
use Rattle.run_output.specs.Ways.{moved}
use Rattle.debug_session.proofs.Finding.{found}
use Rattle.debug_session.proofs.moved.step_of_byte.Given as goal

-- the byte is none of the calls so far
abbrev pub invariant-loop-call : goal.invariant-loop-call
invariant-loop-call l = record {
  same : found l.way l.channel l.offset (take l.call-index l.call-items) (drop l.call-index l.call-items)
      ≡ found l.way l.channel l.offset [] l.log.records;
  left : l.left + length (moved l.way l.channel (take l.call-index l.call-items)) ≡ l.offset;
}
