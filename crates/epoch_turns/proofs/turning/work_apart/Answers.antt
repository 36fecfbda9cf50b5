use Rattle.std.proofs.Common.{sym, subst, subst₂, ◌∙◌}
use Rattle.std.specs.Prelude.{All}
use Rattle.std.specs.List.{AllZip}
use Rattle.std.proofs.lemmas.Result.{IfOk-weaker}
use Rattle.epoch_node.specs.Nodes.{HasBegun, IsLedFrom}
use Rattle.epoch_turns.proofs.turning.work_apart.Goals as goal

pub returns : goal.returns
returns g c = record {
  begun = IfOk-weaker c.into_nodes.result _ _ (λ begun is. subst (All HasBegun) (sym is) c.in_ok-done.ensures.ended) c.into_nodes.ensures;
  led =
      IfOk-weaker c.into_nodes.result _ _
      (λ begun is. subst₂ (AllZip IsLedFrom) (sym is) (c.in_ok-board.ensures ∙ c.in_ok-into_tasks.ensures) c.in_ok-done.ensures.led)
      c.into_nodes.ensures;
}
