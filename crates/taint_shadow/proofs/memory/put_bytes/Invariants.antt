use Rattle.taint_shadow.specs.Memory.{AreBytes, with_bytes, in_memory}
use Rattle.taint_shadow.proofs.memory.put_bytes.Given as goal

abbrev pub invariant-loop-i : goal.invariant-loop-i
invariant-loop-i l = AreBytes l.regions.items (with_bytes l.place l.i l.lanes (in_memory l.initial.regions.items))
