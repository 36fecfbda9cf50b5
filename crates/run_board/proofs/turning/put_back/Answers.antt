use Rattle.std.proofs.Common.{ℕ, Option, length, ap, arith, length-append}
use Rattle.run_board.specs.Views.{list_of}
use Rattle.run_board.specs.Workers.{view_of}
use Rattle.run_board.proofs.KeepsRule.{puts_back, has_room}
use Rattle.run_board.proofs.turning.put_back.Goals as goal

pub push_as-requires-clause-rule : goal.push_as-requires-clause-rule
push_as-requires-clause-rule g c =
    let h = c.requires.taken in (
      puts_back g.T.Numbered.words _ _ _ c.args.task h.holds h.keeps.working h.is_led c.requires.open_task,
      has_room g.T.Numbered.words _ _ h.keeps.working,
    )

-- a full queue has no room for a task that it handed out
pub unreachable-requires : goal.unreachable-requires
unreachable-requires g c =
    let full = c.in-Err.ensures.rule in
    let v = view_of c.args.worker.now in
    omega (arith, full.2.1, full.2.2, length-append v.done (list_of v.held), ap (λ (o : Option ℕ). length (list_of o)) c.requires.taken.holds, c.requires.few)
