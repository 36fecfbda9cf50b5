use Rattle.std.proofs.lemmas.Result.{IfOk-weaker}
use Rattle.epoch_turns.proofs.Grouping.{led_at_last, ended_at_last}
use Rattle.epoch_turns.proofs.turning.turn_all.Goals as goal

pub returns : goal.returns
returns g c = record {
  ended =
      IfOk-weaker c.join.result _ _
      (λ done is. ended_at_last _ _ is c.in_ok-done.ensures.ended)
      c.join.ensures;
  led =
      IfOk-weaker c.join.result _ _
      (λ done is. led_at_last _ _ _ _ _ is c.in_ok-done.ensures.led c.in_ok-board.ensures c.in_ok-groups.ensures.nodes)
      c.join.ensures;
}
