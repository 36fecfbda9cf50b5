use Rattle.std.proofs.Common.{◌≡◌, take}
use Rattle.std.specs.List.{flat_map}
use Rattle.run_output.specs.Stack.{pc_line}
use Rattle.run_output.proofs.stack.text_of.Given as goal

-- the lines so far
abbrev pub invariant-loop-pc : goal.invariant-loop-pc
invariant-loop-pc l = l.out.items ≡ flat_map pc_line (take l.pc-index l.pcs)
