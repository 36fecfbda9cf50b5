use Rattle.std.proofs.Common.{◌+◌, ◌≤◌, ◌++◌, List, length, sym, ap, ◌∙◌, subst, arith}
use Rattle.crossbeam_queue.specs.Passes.{view}
use Rattle.run_board.specs.declared.view.WorkerView.{WorkerView}
use Rattle.run_board.specs.Views.{taken, joined}
use Rattle.run_board.specs.Workers.{Keeps, view_of}
use Rattle.run_board.proofs.KeepsRule.{joins, has_room}
use Rattle.run_board.proofs.Keeping.{keeps_both, both_fit}
use Rattle.run_board.proofs.pool.join.Goals as goal

pub absorb-requires-clause-rule : goal.absorb-requires-clause-rule
absorb-requires-clause-rule g c = joins g.T.Numbered.words _ _ _ _ c.requires.ready.keeps.working

pub learn_as-requires-clause-rule : goal.learn_as-requires-clause-rule
learn_as-requires-clause-rule g c =
    has_room g.T.Numbered.words _ _ (omega (arith, ap (λ (v : WorkerView g.row.T.Denot). v.shares) c.absorb.ensures.rule, c.requires.ready.keeps.working))

pub returns-clause-ready : goal.returns-clause-ready
returns-clause-ready g c =
    let V : Type 0 = WorkerView g.row.T.Denot in
    let words = g.T.Numbered.words in
    let mine = c.requires.ready in
    let is = c.learn_as.ensures.queue.1 ∙ c.absorb.ensures.rule in
    let items = c.args.worker.now.finished.items ++ c.args.other.finished.items in
    let both = keeps_both words (view_of c.args.worker.now) (view_of c.args.other) c.args.worker.now.finished.items c.args.other.finished.items mine.keeps c.requires.other_ready.keeps c.requires.other_starts in
    let keeps = subst (λ (v : V). Keeps words v items) (sym is) both in
    record {
      has_pass = (c.learn_as.ensures.queue.0.0 ∙ c.absorb.ensures.queue.0 ∙ mine.has_pass.0, c.learn_as.ensures.queue.0.2 ∙ c.absorb.ensures.queue.2 ∙ mine.has_pass.1);
      keeps = subst (λ (l : List g.row.T.Denot). Keeps words (view c.learn_as.new.pass) l) (sym c.gather.ensures.items) keeps;
      few = omega (arith, mine.few, ap (λ (v : V). length v.starts) is);
      room = omega (arith, mine.room, c.gather.ensures.capacity);
    }

pub gather-requires : goal.gather-requires
gather-requires g c =
    let V : Type 0 = WorkerView g.row.T.Denot in
    let words = g.T.Numbered.words in
    let mine = c.requires.ready in
    let v = view_of c.args.worker.now in
    let w = view_of c.args.other in
    let room = subst (λ (u : V). length c.learn_as.ensures.rule.0 + length (taken u) ≤ length u.starts) c.absorb.ensures.rule c.learn_as.ensures.rule.1 in
    let short : length (taken (joined v w)) ≤ length v.starts = omega (arith, room) in
    let fit = both_fit words v w c.args.worker.now.finished.items c.args.other.finished.items (length v.starts) mine.keeps c.requires.other_ready.keeps short in
    omega (arith, fit, mine.few, mine.room, c.args.worker.now.finished.ok, c.args.other.finished.ok)
