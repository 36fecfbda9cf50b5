use Rattle.std.proofs.Common.{◌≡◌, ◌+◌, ◌<◌, ◌≤◌}
use Rattle.epoch_node.specs.declared.stage.Phase.TheVariants.{Done}
use Rattle.epoch_node.specs.Cores.{phase_of}
use Rattle.epoch_node.specs.Nodes.{IsLedFrom, HasMoved}
use Rattle.epoch_node.proofs.node.Node.steps.Given as goal

abbrev pub invariant-loop-event : goal.invariant-loop-event
invariant-loop-event g l = record {
  led : IsLedFrom l.self l.fn.self;
  few : l.self.core.events ≤ l.fn.self.core.events + l.event;
  not_done : 0 < l.event → ¬ (phase_of l.self.core.stage ≡ Done);
  still : l.event ≡ 0 → l.self ≡ l.fn.self;
  moved : 0 < l.event → HasMoved l.self l.fn.self;
}
