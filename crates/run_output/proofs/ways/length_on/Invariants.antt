use Rattle.std.proofs.Common.{◌≡◌, length, take}
use Rattle.std.specs.Prelude.{◌-◌, ◌^◌, min}
use Rattle.run_output.specs.Ways.{moved}
use Rattle.run_output.proofs.ways.length_on.Given as goal

-- how many bytes the calls so far moved
abbrev pub invariant-loop-call : goal.invariant-loop-call
invariant-loop-call l = l.count ≡ min (2 ^ 64 - 1) (length (moved l.way l.channel (take l.call-index l.calls)))
