use Rattle.std.proofs.Common.{◌≡◌, List, [], reverse, sym, ap, subst, subst₂, arith}
use Rattle.std.specs.Prelude.{All}
use Rattle.std.specs.List.{AllZip}
use Rattle.std.proofs.lemmas.List.{nil_from_length}
use Rattle.run_board.specs.declared.task.Turn.{Turn}
use Rattle.run_board.specs.Turns.{AnswersEnded}
use Rattle.epoch_node.specs.Events.{WhenMoved, WhenNotYet}
use Rattle.epoch_node.specs.Nodes.{NodeView, HasMoved, IsLedFrom, HasWaited, IsDone}
use Rattle.epoch_turns.specs.Groups.{GroupView, SomeMoved, HasRested}
use Rattle.epoch_turns.proofs.Jobs.{may_take, goes_on, led_of_one_job}
use Rattle.epoch_turns.proofs.Sweeps.{sweep_on, sweep_ends, sweep_moves, sweep_rests, led_both, both_ended, both_moved, both_rested, ended_reverse}
use Rattle.epoch_turns.proofs.group.GroupTask.turn.Goals as goal

pub hand_cursor-requires : goal.hand_cursor-requires
hand_cursor-requires g c = may_take _ _ _ _ c.loop-node.invariant.cursor c.in-Some.ensures.items

pub loop-node-preserved : goal.loop-node-preserved
loop-node-preserved g c =
    let i = c.loop-node.invariant in
    let popped = c.in-Some.ensures in
    let pushed = c.push_reserved.ensures in
    let taken = c.take_cursor-cursor.ensures in
    let led : IsLedFrom c.take_cursor-cursor.new.self c.in-Some.node = subst₂ IsLedFrom (sym taken.same) c.hand_cursor.ensures c.turn.ensures.led in
    let ended = subst (λ (n : NodeView). AnswersEnded c.turn.result (IsDone n)) (sym taken.same) c.turn.ensures.done in
    let moved = subst₂ (λ (m n : NodeView). WhenMoved c.turn.result (HasMoved m n)) (sym taken.same) c.hand_cursor.ensures c.turn.ensures.moved in
    let waited = subst₂ (λ (m n : NodeView). WhenNotYet c.turn.result (HasWaited m n)) (sym taken.same) c.hand_cursor.ensures c.turn.ensures.not_yet in
    record {
      sweep = sweep_on _ _ _ _ _ _ _ _ _ _ i.sweep popped.items led ended moved waited pushed.items c.together-up.ensures;
      cursor = goes_on _ _ _ _ _ c.turn.new.self i.cursor popped.items (subst (IsLedFrom c.turn.new.self) c.hand_cursor.ensures c.turn.ensures.led) taken.job;
      left_room = omega (arith, i.left_room, popped.cases, popped.capacity, pushed.len);
      turned_room = omega (arith, i.turned_room, popped.cases, pushed.len, pushed.capacity);
    }

pub loop-node-2-preserved : goal.loop-node-2-preserved
loop-node-2-preserved g c =
    let i = c.loop-node-2.invariant in
    let popped = c.in-Some-pop.ensures in
    let pushed = c.push_reserved-in-Some-pop.ensures in
    record {
      up = i.up;
      up_moved = i.up_moved;
      up_rested = i.up_rested;
      sweep = sweep_on _ _ _ _ _ _ _ _ _ _ i.sweep popped.items c.turn-in-Some-pop.ensures.led c.turn-in-Some-pop.ensures.done c.turn-in-Some-pop.ensures.moved c.turn-in-Some-pop.ensures.not_yet pushed.items c.together-down.ensures;
      left_room = omega (arith, i.left_room, popped.cases, pushed.len, pushed.capacity);
      turned_room = omega (arith, i.turned_room, popped.cases, popped.capacity, pushed.len);
    }

pub invariant_of-self : goal.invariant_of-self
invariant_of-self g c =
    let i = c.loop-node-2.invariant in
    let old = c.self.inside.left.items in
    let between : List NodeView = c.loop-node.turned.items in
    let new : List NodeView = c.loop-node-2.left.items in
    let none : c.loop-node-2.turned.items ≡ [] = nil_from_length _ (omega (arith, c.in_default-pop.ensures.cases.0, c.loop-node-2.turned.ok.0)) in
    let led = led_both _ between new i.up (sweep_ends (reverse between) c.loop-node-2.turned.items new c.loop-node-2.down i.sweep none) in (
      nil_from_length _ (omega (arith, c.in_default-pop.ensures.cases.1, c.pop-in-loop-node-2.new.self.ok.0)),
      omega (arith, i.turned_room, c.in_default-pop.ensures.capacity),
      led_of_one_job old new _ c.self.invariant.2 (ap (λ (v : GroupView). v.nodes) c.self.view_is) led,
    )

pub returns : goal.returns
returns g c =
    let i = c.loop-node-2.invariant in
    let between : List NodeView = c.loop-node.turned.items in
    let new : List NodeView = c.loop-node-2.left.items in
    let none : c.loop-node-2.turned.items ≡ [] = nil_from_length _ (omega (arith, c.in_default-pop.ensures.cases.0, c.loop-node-2.turned.ok.0)) in
    let number = ap (λ (v : GroupView). v.number) c.self.view_is in
    let old : List NodeView = c.args.self.now.nodes in
    let down = sweep_ends (reverse between) c.loop-node-2.turned.items new c.loop-node-2.down i.sweep none in
    record {
      led = record { number = number; nodes = led_both _ between new i.up down };
      number = number;
      done =
          subst (λ (a : Turn). AnswersEnded a (All IsDone (reverse new))) (sym c.after_both.ensures)
          (both_ended c.loop-node.up c.loop-node-2.down _ (ended_reverse c.loop-node-2.down new c.loop-node-2.invariant.sweep.ended));
      moved =
          subst (λ (a : Turn). WhenMoved a (SomeMoved (reverse new) old)) (sym c.after_both.ensures)
          (both_moved c.loop-node.up c.loop-node-2.down old between new i.up down i.up_moved
          (sweep_moves (reverse between) c.loop-node-2.turned.items new c.loop-node-2.down i.sweep none));
      not_yet =
          subst (λ (a : Turn). WhenNotYet a (AllZip HasRested (reverse new) old)) (sym c.after_both.ensures)
          (both_rested c.loop-node.up c.loop-node-2.down old between new i.up_rested
          (sweep_rests (reverse between) c.loop-node-2.turned.items new c.loop-node-2.down i.sweep none));
    }
