use Rattle.std.proofs.Common.{◌≡◌, take}
use Rattle.backward_pass.specs.Needs.{AreCountedNow}
use Rattle.backward_pass.proofs.node_needs.count_all.Given as goal

-- the first nodes have got their needs
abbrev pub invariant-loop-number : goal.invariant-loop-number
invariant-loop-number l =
    (l.asked ≡ l.fn.asked) × AreCountedNow l.log l.fn.asked (take l.number l.order) l.fn.needs.items l.needs.items
