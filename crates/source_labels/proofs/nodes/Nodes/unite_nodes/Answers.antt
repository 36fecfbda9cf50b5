use Rattle.source_labels.proofs.Kept.{keeps_labels, of_both}
use Rattle.source_labels.proofs.nodes.Nodes.unite_nodes.Goals as goal

pub node_of-requires-2 : goal.node_of-requires-2
node_of-requires-2 c = (keeps_labels c.args.self.now c.node_of.new.self c.node_of.ensures.keeps c.args.right c.requires.right).stands

pub absorbing_union-requires-clause-left : goal.absorbing_union-requires-clause-left
absorbing_union-requires-clause-left c = c.node_of-2.ensures.keeps.nodes c.in_ok-one.one c.in_ok-one.ensures.stands

pub returns : goal.returns
returns c =
    of_both c.args.self.now c.node_of.new.self c.node_of-2.new.self (record { log = c.absorbing_union.new.self }) c.args.left c.args.right c.in_ok-one.one c.in_ok-other.other c.in_ok-node.node c.label_of.result
    c.requires.right c.in_ok-one.ensures.stands c.in_ok-one.ensures.means c.node_of.ensures.keeps c.in_ok-other.ensures.means c.node_of-2.ensures.keeps c.in_ok-node.ensures.terms c.absorbing_union.ensures.kept c.label_of.ensures
