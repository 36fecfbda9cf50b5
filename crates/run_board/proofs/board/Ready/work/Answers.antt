use Rattle.std.proofs.Common.{◌≡◌, ℕ, List, All, length, sym, ap, ◌∙◌, subst}
use Rattle.run_board.specs.declared.view.WorkerView.{WorkerView}
use Rattle.run_board.specs.Views.{filled, whole_share}
use Rattle.run_board.specs.Rule.{view_weight, whole_weight}
use Rattle.run_board.specs.Workers.{KnowsStarts, view_of}
use Rattle.run_board.proofs.Order.{IsAnswer, is_answer}
use Rattle.run_board.proofs.board.Ready.work.Goals as goal

-- the last worker has all tasks, ended and led from those handed in
answer : (g : _) (c : goal.After-drop-queue g) → IsAnswer g.T.Numbered.words c.args.self c.in_order.result.items
answer g c =
    let t = c.turn_until_empty.ensures in
    let w = c.run_pool-worker.ensures in
    let pool = c.make_pool-pool in
    let handed_in = c.self.inside.tasks.items in
    let known = subst (λ (s : List g.row.T.Denot). All (KnowsStarts s) pool.result.items) (ap (λ v. v.starts) c.fill.ensures.filled) pool.ensures.starts in
    let shares = t.same_worker.shares ∙ w.shares ∙ pool.ensures.shares in
    let starts = t.same_worker.starts ∙ w.starts handed_in known in
    let whole : (h : ℕ → ℕ) → view_weight h (view_of c.turn_until_empty.new.worker) ≡ whole_weight (length handed_in) h = λ h. t.has_all shares h ∙ ap (λ (s : List g.row.T.Denot). whole_weight (length s) h) starts in
    rw (← c.self.view_is) (is_answer g.T.Numbered.words (view_of c.turn_until_empty.new.worker) c.turn_until_empty.new.worker.finished.items c.in_order.result.items handed_in t.ready.keeps whole starts c.self.invariant.0 c.in_order.ensures.permutation c.in_order.ensures.sorted)

pub returns : goal.returns
returns g c = record {
  order = (answer g c).order;
  ended = (answer g c).are_ended;
  led = (answer g c).are_led;
}

pub make_pool-pool-requires-clause-filled : goal.make_pool-pool-requires-clause-filled
make_pool-pool-requires-clause-filled g c κs within =
    let told = c.fill.ensures.filled in
    told ∙ ap (λ (s : List g.row.T.Denot). filled whole_share s) (sym (ap (λ (v : WorkerView g.row.T.Denot). v.starts) told))
