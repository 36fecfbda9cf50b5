use Rattle.std.proofs.Common.{◌≡◌, ◌+◌, ◌*◌, take}
use Rattle.std.specs.List.{sum_by}
use Rattle.log_model.specs.Logs.{share}
use Rattle.replay_log.proofs.lengths.text_length.Given as goal

-- the header, the channels' lengths, and the shares of the calls so far
abbrev pub invariant-loop-call : goal.invariant-loop-call
invariant-loop-call l = l.length ≡ 48 + 4 * l.inputs + sum_by (share l.inputs) (take l.call-index l.records)
