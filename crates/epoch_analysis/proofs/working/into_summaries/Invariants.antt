use Rattle.std.proofs.Common.{List, ◌++◌}
use Rattle.std.specs.Prelude.{All}
use Rattle.std.specs.List.{AllZip}
use Rattle.std.specs.Vec.Iter.{into_iter_items}
use Rattle.epoch_summary.specs.declared.summary.Summary.{Summary}
use Rattle.epoch_analysis.specs.Analyses.{HasEnded, IsFoundBy}
use Rattle.epoch_analysis.proofs.working.into_summaries.Given as goal

-- the other analyses have ended; and with what they found, the summaries so far are those of all
abbrev pub invariant-loop-task : goal.invariant-loop-task
invariant-loop-task g l =
    All HasEnded (into_iter_items l.task-iterator)
    × ((rest : List Summary) → AllZip IsFoundBy (into_iter_items l.task-iterator) rest → AllZip IsFoundBy l.fn.tasks.items (l.all.items ++ rest))
