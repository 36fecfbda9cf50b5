use Rattle.std.proofs.Common.{◌≡◌, ◌++◌, List, map, length}
use Rattle.std.specs.Vec.Iter.{into_iter_items}
use Rattle.epoch_node.specs.Cores.{CoreView, core_of}
use Rattle.jet_core.specs.declared.joints.Joint.{Joint}
use Rattle.jet_core.specs.Lines.{Plan, IsLaidOut, IsLineOf}
use Rattle.jet_core.specs.Streams.{AreParts}
use Rattle.jet_core.proofs.Beginning.{IsBeginning}
use Rattle.jet_core.proofs.Going.{RoundTo}
use Rattle.jet_core.proofs.rounds.round.Given as goal

-- the cores that had their turn, and the others
abbrev pub invariant-loop-core : goal.invariant-loop-core
invariant-loop-core g l =
    let now : List CoreView = map core_of l.turned.items ++ map core_of (into_iter_items l.core-iterator) in
    let cs : List CoreView = map core_of l.fn.line.cores.items in
    let js : List Joint = l.fn.line.joints.items in
    record {
      count : length now ≡ length cs;
      line : (p : Plan) → IsLineOf p cs js → IsLineOf p now l.joints.items;
      begins : (p : Plan) → IsLaidOut p cs js → IsBeginning (length l.turned.items) now l.joints.items;
      so_far : (p : Plan) → IsLineOf p cs js → AreParts cs js → RoundTo p (length l.turned.items) cs js now l.joints.items;
    }
