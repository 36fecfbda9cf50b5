use Rattle.epoch_node.proofs.Alike.{node_event_is_by_links, events_are_of_nodes}
use Rattle.epoch_node.proofs.laws.events_are_of_nodes.Goals as goal

pub returns-clause-node : goal.returns-clause-node
returns-clause-node c = node_event_is_by_links

pub returns-clause-core : goal.returns-clause-core
returns-clause-core c = events_are_of_nodes
