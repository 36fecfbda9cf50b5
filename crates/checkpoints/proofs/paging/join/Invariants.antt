use Rattle.std.proofs.Common.{◌≡◌, ◌*◌, ℕ, List, take}
use Rattle.checkpoints.specs.Pages.{ArePagesOf}
use Rattle.checkpoints.proofs.paging.join.Given as goal

-- the pages so far
abbrev pub invariant-loop-number : goal.invariant-loop-number
invariant-loop-number l = (window : List ℕ) → ArePagesOf l.pages l.numbers window → l.bytes.items ≡ take (l.number-index * 4096) window
