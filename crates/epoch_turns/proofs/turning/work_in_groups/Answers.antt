use Rattle.std.proofs.Common.{arith}
use Rattle.std.proofs.lemmas.List.Elements.{length_all_zip}
use Rattle.std.proofs.lemmas.Result.{IfOk-weaker}
use Rattle.epoch_node.specs.Nodes.{IsLedFrom}
use Rattle.epoch_turns.specs.Groups.{all_led_trans}
use Rattle.epoch_turns.proofs.Grouping.{same_numbers, stay_numbered, stay_done}
use Rattle.epoch_turns.proofs.turning.work_in_groups.Goals as goal

pub returns-then-workers-eq1-clause-order : goal.returns-then-workers-eq1-clause-order
returns-then-workers-eq1-clause-order g c = IfOk-weaker c.turn_all.result _ _ (λ done led. same_numbers _ _ led) c.turn_all.ensures.led

pub work_apart-requires-clause-numbers : goal.work_apart-requires-clause-numbers
work_apart-requires-clause-numbers g c κs within = stay_numbered _ _ c.in_ok-done.ensures.led c.requires.numbers

pub work_apart-requires-clause-count : goal.work_apart-requires-clause-count
work_apart-requires-clause-count g c κs within =
    let count = length_all_zip IsLedFrom c.in_ok-done.done.items c.args.nodes.items c.in_ok-done.ensures.led in
    (omega (arith, count, c.requires.count.0), omega (arith, count, c.requires.count.1))

pub returns : goal.returns
returns g c =
    let before = c.in_ok-done.ensures.led in
    record {
      order =
          IfOk-weaker c.work_apart.result _ _ (λ made led. same_numbers _ _ (all_led_trans c.args.nodes.items c.in_ok-done.done.items made.items before led))
          c.work_apart.ensures.led;
      ended =
          IfOk-weaker c.work_apart.result _ _ (λ made led. stay_done made.items c.in_ok-done.done.items led c.in_ok-done.ensures.ended) c.work_apart.ensures.led;
      led =
          IfOk-weaker c.work_apart.result _ _ (λ made led. all_led_trans c.args.nodes.items c.in_ok-done.done.items made.items before led)
          c.work_apart.ensures.led;
    }
