use Rattle.std.proofs.Common.{map}
use Rattle.epoch_node.specs.Cores.{core_of}
use Rattle.jet_core.specs.Lines.{Plan, IsLineOf}
use Rattle.jet_core.specs.Streams.{AreParts}
use Rattle.jet_core.specs.Left.{work_left}
use Rattle.jet_core.proofs.rounds.round_robin.Given as goal

abbrev pub invariant-loop-line : goal.invariant-loop-line
invariant-loop-line g l =
    let p : Plan = record { run = record { job = l.fn.checkpoints.job; query = l.fn.query; cuts = l.fn.cuts }; capacity = l.fn.capacity } in
    record {
      line : IsLineOf p (map core_of l.line.cores.items) l.line.joints.items;
      parts : AreParts (map core_of l.line.cores.items) l.line.joints.items;
    }

abbrev pub decreases-loop-line : goal.decreases-loop-line
decreases-loop-line g l = work_left (map core_of l.line.cores.items) l.line.joints.items
