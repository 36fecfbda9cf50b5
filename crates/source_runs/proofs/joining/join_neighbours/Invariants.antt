use Rattle.std.proofs.Common.{◌≡◌, ◌++◌, drop}
use Rattle.source_runs.proofs.Joined.{joined_from, joined_all}
use Rattle.source_runs.proofs.joining.join_neighbours.Given as goal

-- what is joined, with the rest joined from the current run on, is all joined
abbrev pub invariant-loop-run : goal.invariant-loop-run
invariant-loop-run l = l.joined.items ++ joined_from l.current (drop l.run-index l.more) ≡ joined_all l.fn.runs
