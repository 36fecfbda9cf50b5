use Rattle.std.proofs.Common.{take}
use Rattle.log_model.specs.Moved.{received, written}
use Rattle.range_report.specs.Channels.{IsTable}
use Rattle.range_report.proofs.moved.MovedBytes.new.Given as goal

-- the bytes of the calls so far
abbrev pub invariant-loop-call : goal.invariant-loop-call
invariant-loop-call l = record {
  received : IsTable received (take l.call-index l.calls) l.received;
  written : IsTable written (take l.call-index l.calls) l.written;
}
