use Rattle.std.specs.Vec.Iter.{into_iter_items}
use Rattle.epoch_layout.specs.Layouts.{CutRun, epochs_of}
use Rattle.epoch_layout.proofs.Layouts.{IsOpen}
use Rattle.epoch_layout.proofs.layout.lay_out.Given as goal

abbrev pub invariant-loop-ticket : goal.invariant-loop-ticket
invariant-loop-ticket g l =
    let run : CutRun = record { job = l.checkpoints.job; query = l.query; cuts = l.fn.cuts } in
    IsOpen l.capacity run (epochs_of run) (into_iter_items l.ticket-iterator) l.last l.nodes.items l.before
