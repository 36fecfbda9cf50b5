-- What is gathered of nodes that are done, one after another, from the last to the first.
use Rattle.std.specs.Prelude.{◌≡◌, ◌+◌, ◌-◌, ◌^◌, List, [], ◌∷◌, ◌++◌, None, min}
use Rattle.report_model.specs.Rows.{Row}
use Rattle.epoch_node.specs.Cores.{asked_at}
use Rattle.epoch_node.specs.Keeping.{HasDone, HasCounted}
use Rattle.epoch_node.specs.Nodes.{NodeView, traffic_of}
use Rattle.epoch_layout.specs.declared.collecting.Gathering.{Gathering}
use Rattle.epoch_layout.specs.Lines.{HasDelivered}

-- nothing is gathered
pub record HasNothing (g : Gathering) : Type 0 where
  pub sets : g.sets.items ≡ []
  pub asked : g.asked.items ≡ []
  pub events : g.events ≡ 0
  pub ask_out : g.ask_out ≡ None
  pub answer_in : g.answer_in ≡ None

-- the node before those that were gathered is taken in: its rows, what it asked and its events. The links between it and them
-- are closed
pub record HasTaken (n : NodeView) (old new : Gathering) : Type 0 where
  pub rows : List Row
  pub done : HasDone n.core.setup (traffic_of n.ends) (asked_at n.core.stage) rows
  pub counted : HasCounted n.core.setup (traffic_of n.ends) (asked_at n.core.stage) rows n.core.events
  pub sets : new.sets.items ≡ old.sets.items ++ rows ∷ []
  pub asked : new.asked.items ≡ old.asked.items ++ asked_at n.core.stage ∷ []
  pub events : new.events ≡ min (old.events + n.core.events) (2 ^ 64 - 1)
  pub ask_out : new.ask_out ≡ n.ends.ask_out
  pub answer_in : new.answer_in ≡ n.ends.answer_in
  pub asks : HasDelivered old.ask_out n.ends.ask_in
  pub answers : HasDelivered n.ends.answer_out old.answer_in
