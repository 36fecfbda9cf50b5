use Rattle.std.proofs.Common.{◌≡◌, take}
use Rattle.std.specs.List.{flat_map}
use Rattle.run_output.specs.Stacks.{stack_part}
use Rattle.run_output.proofs.stacks.parts_text.Given as goal

-- the parts so far
abbrev pub invariant-loop-time : goal.invariant-loop-time
invariant-loop-time l = l.out.items ≡ flat_map (stack_part l.job.start l.job.log) (take l.time-index l.times)
