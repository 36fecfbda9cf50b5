use Rattle.std.proofs.Common.{ap, ◌++◌, ◌∙◌, List, sym, arith}
use Rattle.std.proofs.lemmas.List.{nil_from_length}
use Rattle.epoch_node.specs.Nodes.{NodeView}
use Rattle.epoch_turns.specs.Groups.{nodes_of}
use Rattle.epoch_turns.proofs.Jobs.{left_of_one_job}
use Rattle.epoch_turns.proofs.Grouping.{numbers_on, split_on, last_has_all}
use Rattle.epoch_turns.proofs.splitting.split.Goals as goal

pub take_group-requires : goal.take_group-requires
take_group-requires g c = left_of_one_job c.args.nodes.items c.loop-number.nodes.items _ c.requires.one_job c.loop-number.invariant.split

pub loop-number-preserved : goal.loop-number-preserved
loop-number-preserved g c =
    let i = c.loop-number.invariant in
    let taken = c.in_ok-take_group.ensures in
    let pushed = c.in_ok-push.ensures in
    record {
      split = split_on c.loop-number.groups.items c.push.new.self.items _ c.loop-number.nodes.items c.take_group.new.nodes.items _ pushed.items i.split taken.nodes;
      numbers = numbers_on c.loop-number.groups.items c.push.new.self.items _ pushed.items i.numbers (omega (arith, taken.number, i.count, c.loop-number.groups.ok.0));
      count = omega (arith, i.count, pushed.len);
      left = λ last.
          let all = last_has_all _ _ _ (omega (arith, last, c.loop-number-test.true)) c.div_ceil-size.ensures in
          omega (arith, taken.left, all, c.len.ensures);
    }

pub returns-clause-nodes : goal.returns-clause-nodes
returns-clause-nodes g c =
    let i = c.loop-number.invariant in
    let none = nil_from_length c.loop-number.nodes.items (omega (arith, i.left (omega (arith, c.loop-number-test.false)), c.loop-number.nodes.ok.0)) in
    ap (λ (ns : List NodeView). ns ++ nodes_of c.loop-number.groups.items) (sym none) ∙ i.split
