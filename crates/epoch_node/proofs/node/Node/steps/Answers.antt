use Rattle.std.proofs.Common.{arith}
use Rattle.epoch_node.specs.Nodes.{led_trans}
use Rattle.epoch_node.proofs.Led.{moved_one}
use Rattle.epoch_node.proofs.node.Node.steps.Goals as goal

pub loop-event-preserved : goal.loop-event-preserved
loop-event-preserved g c =
    let i = c.loop-event.invariant in
    let e = c.in-Moved.ensures in
    record {
      led = led_trans c.args.self.now c.loop-event.self c.step.new.self i.led c.step.ensures.led;
      few = omega (arith, i.few, e.counted);
      not_done = λ _. e.done;
      still = λ none. absurd (omega (arith, none));
      moved = λ _. moved_one c.args.self.now c.loop-event.self c.step.new.self i.led e.counted;
    }

pub returns-in-Done-clause-led : goal.returns-in-Done-clause-led
returns-in-Done-clause-led g c = led_trans c.args.self.now c.loop-event.self c.step.new.self c.loop-event.invariant.led c.step.ensures.led

pub returns-then-event-eq0-clause-led : goal.returns-then-event-eq0-clause-led
returns-then-event-eq0-clause-led g c = led_trans c.args.self.now c.loop-event.self c.step.new.self c.loop-event.invariant.led c.step.ensures.led

pub returns-else-event-eq0-clause-led : goal.returns-else-event-eq0-clause-led
returns-else-event-eq0-clause-led g c = led_trans c.args.self.now c.loop-event.self c.step.new.self c.loop-event.invariant.led c.step.ensures.led
