use Rattle.std.proofs.Common.{◌≡◌, length, rules}
use Rattle.path_find.proofs.Paths.{IsPreviousOf, of_read, of_node, ordered, made_by, kept_by}
use Rattle.path_find.proofs.nodes.Nodes.arrive.Goals as goal
use Rattle.path_find.proofs.nodes.Nodes.arrive.Goals.{in-Read, in-At}

previous : (c : goal.In_ok-push) → IsPreviousOf c.args.self.now c.args.label c.match-label.previous
previous c = elim c.match-label.branch [ in-Read w ↦ of_read _ _ _ w.in-Read.is w.previous-is | in-At w ↦ of_node _ _ _ w.in-At.node w.in-At.is w.previous-is c.requires ]

pub invariant_of-self-2 : goal.invariant_of-self-2
invariant_of-self-2 c = ordered c.self.inside.nodes.items c.args.self.now c.push.new.self.items _ c.args.label c.self.view_is c.in_ok-push.ensures.items c.self.invariant (previous c)

pub returns-clause-made : goal.returns-clause-made
returns-clause-made c =
    let size : c.len-size.result ≡ length c.self.inside.nodes.items = search rules in
    made_by c.self.inside.nodes.items c.args.self.now c.push.new.self.items _ c.args.label c.len-size.result c.self.view_is c.in_ok-push.ensures.items size (previous c)

pub returns-clause-keeps : goal.returns-clause-keeps
returns-clause-keeps c = kept_by c.self.inside.nodes.items c.args.self.now c.push.new.self.items _ c.self.view_is c.in_ok-push.ensures.items
