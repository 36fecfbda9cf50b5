use Rattle.std.proofs.Common.{◌≡◌, take}
use Rattle.run_output.specs.Ways.{moved}
use Rattle.run_output.proofs.ways.moved_on.Given as goal

-- the bytes of the calls so far
abbrev pub invariant-loop-call : goal.invariant-loop-call
invariant-loop-call l = l.out.items ≡ moved l.way l.channel (take l.call-index l.calls)
