use Rattle.std.proofs.Common.{◌++◌, List, reverse, sym, ap, ◌∙◌, append-nil, arith}
use Rattle.epoch_node.specs.Nodes.{NodeView}
use Rattle.epoch_turns.specs.Groups.{GroupView}
use Rattle.epoch_turns.proofs.Lists.{goes_on_top}
use Rattle.epoch_turns.proofs.Jobs.{taken_of_one_job}
use Rattle.epoch_turns.proofs.splitting.take_group.Goals as goal
use Rattle.epoch_turns.proofs.splitting.take_group.Goals.{in-Some, in_default}

pub new-requires-clause-one_job : goal.new-requires-clause-one_job
new-requires-clause-one_job g c = taken_of_one_job _ c.loop.nodes.items c.loop.stack.items c.requires c.loop.invariant.split

pub loop-init : goal.loop-init
loop-init g c = record {
  split = ap (λ (ns : List NodeView). c.args.nodes.now.items ++ reverse ns) c.in_ok-stack.ensures.items ∙ append-nil c.args.nodes.now.items;
  taken = omega (arith, c.in_ok-stack.ensures.len);
  left = omega arith;
  room = c.in_ok-stack.ensures.capacity;
}

pub push_reserved-requires : goal.push_reserved-requires
push_reserved-requires g c = omega (arith, c.loop.invariant.taken, c.loop.invariant.room)

pub loop-preserved : goal.loop-preserved
loop-preserved g c =
    let i = c.loop.invariant in
    elim c.match-pop.branch [
      | in-Some w ↦
          let pushed = w.push_reserved.ensures in
          rw w.stack-is
          record {
            split = goes_on_top _ _ _ _ _ w.in-Some.node w.in-Some.ensures.items pushed.items i.split;
            taken = omega (arith, i.taken, pushed.len);
            left = omega (arith, i.left, w.in-Some.ensures.cases);
            room = omega (arith, i.room, pushed.capacity);
          }
      | in_default w ↦ absurd (omega (arith, w.in_default.ensures.cases.0, i.left, c.loop-test.true, c.min-count.ensures, c.len.ensures))
    ]

pub new-requires-clause-empty : goal.new-requires-clause-empty
new-requires-clause-empty g c = c.in_ok-turned.ensures.items

pub returns-clause-number : goal.returns-clause-number
returns-clause-number g c = ap (λ (v : GroupView). v.number) c.new.ensures

pub returns-clause-nodes : goal.returns-clause-nodes
returns-clause-nodes g c = sym c.loop.invariant.split ∙ ap (λ (v : GroupView). c.loop.nodes.items ++ v.nodes) (sym c.new.ensures)
