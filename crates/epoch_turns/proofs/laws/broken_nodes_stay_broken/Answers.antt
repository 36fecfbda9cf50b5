use Rattle.std.proofs.Common.{List, [], ◌∷◌}
use Rattle.std.specs.List.{AllZip}
use Rattle.epoch_node.specs.Nodes.{NodeView, IsLedFrom}
use Rattle.epoch_node.proofs.Led.{broken_stays}
use Rattle.epoch_turns.specs.Groups.{StaysBroken}
use Rattle.epoch_turns.proofs.laws.broken_nodes_stay_broken.Goals as goal

each_stays : (new old : List NodeView) → AllZip IsLedFrom new old → AllZip StaysBroken new old
each_stays [] [] h = tt
each_stays (n ∷ new) (o ∷ old) h = (broken_stays n o h.0, each_stays new old h.1)
each_stays new old h = absurd h

pub returns : goal.returns
returns c = λ new old led. each_stays new.nodes old.nodes led.nodes
