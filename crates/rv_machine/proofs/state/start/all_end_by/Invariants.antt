use Rattle.std.proofs.Common.{◌≡◌, ◌+◌, nat_le, true, take}
use Rattle.std.specs.List.{list_all}
use Rattle.rv_machine.proofs.state.start.all_end_by.Given as goal

abbrev pub invariant-loop-segment : goal.invariant-loop-segment
invariant-loop-segment l = list_all (λ s. nat_le (s.place + s.size) l.past) (take l.segment-index l.segments) ≡ true
