use Rattle.std.proofs.Common.{◌-◌, ◌+◌, length}
use Rattle.summary_join.specs.Needs.{AreLookedAt}
use Rattle.summary_join.proofs.needs.look_through.Given as goal

-- the nodes above this place were looked at
abbrev pub invariant-loop-past : goal.invariant-loop-past
invariant-loop-past l = AreLookedAt l.log (length l.log + 1 - l.past) l.fn.marks.items l.fn.asked l.marks.items l.asked
