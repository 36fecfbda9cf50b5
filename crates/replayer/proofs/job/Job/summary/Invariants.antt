use Rattle.std.proofs.Common.{◌≡◌, take, length}
use Rattle.std.specs.List.{flat_map}
use Rattle.log_model.specs.Moved.{received_of, written_of}
use Rattle.replayer.proofs.job.Job.summary.Given as goal

-- the bytes of the calls so far
abbrev pub invariant-loop-call : goal.invariant-loop-call
invariant-loop-call l = record {
  read : l.read ≡ length (flat_map received_of (take l.call-index l.records));
  written : l.written ≡ length (flat_map written_of (take l.call-index l.records));
}
