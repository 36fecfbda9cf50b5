use Rattle.std.proofs.Common.{◌≡◌, ◌++◌, map}
use Rattle.std.specs.Prelude.{All}
use Rattle.std.specs.Vec.Iter.{into_iter_items}
use Rattle.epoch_analysis.specs.Epochs.{BeginsAt}
use Rattle.epoch_analysis.specs.Analyses.{fresh}
use Rattle.epoch_analysis.proofs.working.into_tasks.Given as goal

-- the tasks so far, and of the other tickets
abbrev pub invariant-loop-ticket : goal.invariant-loop-ticket
invariant-loop-ticket g l =
    (l.tasks.items ++ map (fresh l.fn.checkpoints l.fn.query) (into_iter_items l.ticket-iterator) ≡ map (fresh l.fn.checkpoints l.fn.query) l.fn.tickets.items)
    × All (BeginsAt l.fn.checkpoints) (into_iter_items l.ticket-iterator)
