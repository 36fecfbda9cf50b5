use Rattle.std.proofs.Common.{map}
use Rattle.std.specs.Vec.Iter.{into_iter_items}
use Rattle.epoch_node.specs.Cores.{core_of}
use Rattle.epoch_layout.specs.Layouts.{CutRun, epochs_of}
use Rattle.jet_core.proofs.Laying.{IsGrowing}
use Rattle.jet_core.proofs.line.lay_out.Given as goal

abbrev pub invariant-loop-ticket : goal.invariant-loop-ticket
invariant-loop-ticket g l =
    let run : CutRun = record { job = l.checkpoints.job; query = l.query; cuts = l.fn.cuts } in
    IsGrowing l.capacity run (epochs_of run) (into_iter_items l.ticket-iterator) l.last (map core_of l.cores.items) l.joints.items
