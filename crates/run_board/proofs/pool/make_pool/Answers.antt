use Rattle.std.proofs.Common.{◌≡◌, ◌<◌, Some, List, [], ◌∷◌, All, length, sym, ap, ◌∙◌, subst, arith, lit<, length-append}
use Rattle.std.specs.Vec.Iter.{into_iter_items}
use Rattle.std.proofs.lemmas.List.Elements.{All-nil, All-head, All-pop, All-push, All-rest}
use Rattle.crossbeam_queue.specs.Passes.{view, IsPassOf, ruled_capacity}
use Rattle.run_board.specs.declared.view.WorkerView.{WorkerView}
use Rattle.run_board.specs.declared.worker.Worker.{Worker}
use Rattle.run_board.specs.Views.{filled, after_split}
use Rattle.run_board.specs.Workers.{IsReady, HasRoomFor, KnowsStarts, shares_of}
use Rattle.run_board.proofs.KeepsRule.{splits}
use Rattle.run_board.proofs.Keeping.{keeps_none}
use Rattle.run_board.proofs.Joining.{shares_of-push}
use Rattle.run_board.proofs.pool.make_pool.Goals as goal

pub loop-finished-init : goal.loop-finished-init
loop-finished-init g c =
    let V : Type 0 = WorkerView g.row.T.Denot in
    let W : Type 0 = Worker g.row.T.Denot in
    let capacity = ruled_capacity c.args.queue.now in
    let ready : W → Type 0 = λ w. IsReady g.T.Numbered.words capacity (IsPassOf c.args.queue.now) w in
    let known = (view c.args.pass).starts in
    let lists = c.in-Some.ensures.items in
    let others = c.pop.new.self.items in
    let e = c.into_iter-finished-iterator.ensures.into_iter_gives in
    let shares = ap (λ (v : V). v.shares) c.requires.filled in
    let one = length-append others (c.in-Some.last ∷ []) in
    let none = c.requires.empty in
    record {
      pass = c.requires.pass;
      view_is = c.requires.filled ∙ ap (λ n. filled n known) (sym shares);
      left = omega (arith, shares, c.requires.count, ap length e.0, ap length lists, one, c.args.lists.ok);
      lists = subst (All (HasRoomFor capacity)) (sym e.0) (All-pop (HasRoomFor capacity) _ others (Some c.in-Some.last) lists c.requires.lists).0;
      room = omega (arith, c.requires.room, ap length e.0, ap length lists, one, ap length none, c.args.lists.ok, c.args.pool.ok);
      ready = subst (All ready) (sym none) (All-nil ready);
      starts = subst (All (KnowsStarts known)) (sym none) (All-nil (KnowsStarts known));
      shares = omega (arith, ap (λ (l : List W). shares_of l) none, shares);
    }

pub another-share-requires-clause-rule : goal.another-share-requires-clause-rule
another-share-requires-clause-rule g c = splits g.T.Numbered.words _ _ (omega (arith, c.loop-finished.invariant.left, ap length c.in-Some-finished.ensures.steps.0))

pub loop-finished-preserved : goal.loop-finished-preserved
loop-finished-preserved g c =
    let V : Type 0 = WorkerView g.row.T.Denot in
    let W : Type 0 = Worker g.row.T.Denot in
    let capacity = ruled_capacity c.args.queue.now in
    let ready : W → Type 0 = λ w. IsReady g.T.Numbered.words capacity (IsPassOf c.args.queue.now) w in
    let i = c.loop-finished.invariant in
    let a = c.another-share.ensures in
    let known = (view c.args.pass).starts in
    let list = c.in-Some-finished.finished in
    let worker : W = record { pass = c.another-share.result; finished = list } in
    let new_is : view c.another-share.result ≡ filled 1 known = a.rule.1 ∙ ap (λ (v : V). filled 1 v.starts) i.view_is in
    let steps = c.in-Some-finished.ensures.steps.0 in
    let rest = into_iter_items c.next.new.self in
    let has_room = All-head (HasRoomFor capacity) list rest (subst (All (HasRoomFor capacity)) steps i.lists) in
    let keeps = keeps_none g.T.Numbered.words (view c.another-share.result) list.items 1 known new_is (lit< tt) has_room.0 in
    let items = c.push_reserved.ensures.items in
    let shares = ap (λ (v : V). v.shares) a.rule.0 in
    let one = ap length steps in
    let starts = ap (λ (v : V). length v.starts) new_is in
    record {
      pass = (a.queue.0.0 ∙ i.pass.0, a.queue.0.2 ∙ i.pass.1);
      view_is = a.rule.0 ∙ ap (λ (v : V). after_split v) i.view_is ∙ ap (λ n. filled n known) (sym shares);
      left = omega (arith, shares, i.left, one);
      lists = All-rest (HasRoomFor capacity) list rest _ steps i.lists;
      room = omega (arith, i.room, one, c.push_reserved.ensures.len, c.push_reserved.ensures.capacity);
      ready = subst (All ready) (sym items) (All-push ready c.loop-finished.pool.items worker i.ready (record { has_pass = a.queue.1; keeps = keeps; few = omega (arith, starts, c.requires.few); room = has_room.1 }));
      starts = subst (All (KnowsStarts known)) (sym items) (All-push (KnowsStarts known) c.loop-finished.pool.items worker i.starts (ap (λ (v : V). v.starts) new_is));
      shares = omega (arith, i.shares, i.left, shares, ap (λ (l : List W). shares_of l) items, shares_of-push c.loop-finished.pool.items worker, ap (λ (v : V). v.shares) new_is);
    }

pub returns : goal.returns
returns g c =
    let W : Type 0 = Worker g.row.T.Denot in
    let capacity = ruled_capacity c.args.queue.now in
    let ready : W → Type 0 = λ w. IsReady g.T.Numbered.words capacity (IsPassOf c.args.queue.now) w in
    let i = c.loop-finished.invariant in
    let own : W = record { pass = c.loop-finished.pass; finished = c.in-Some.last } in
    let works : 0 < (view c.loop-finished.pass).shares = omega (arith, i.left) in
    let has_room : HasRoomFor capacity c.in-Some.last =
    (All-pop (HasRoomFor capacity) _ c.pop.new.self.items (Some c.in-Some.last) c.in-Some.ensures.items c.requires.lists).1 in
    let keeps = keeps_none g.T.Numbered.words (view c.loop-finished.pass) c.in-Some.last.items (view c.loop-finished.pass).shares (view c.args.pass).starts i.view_is works has_room.0 in
    let V : Type 0 = WorkerView g.row.T.Denot in
    let known = (view c.args.pass).starts in
    record {
      some = omega (arith, c.push_reserved-2.ensures.len);
      ready =
          subst (All ready) (sym c.push_reserved-2.ensures.items)
          (All-push ready c.loop-finished.pool.items own i.ready
          (record { has_pass = i.pass; keeps = keeps; few = omega (arith, ap (λ (v : WorkerView g.row.T.Denot). length v.starts) i.view_is, c.requires.few); room = has_room.1 }));
      starts =
          subst (All (KnowsStarts known)) (sym c.push_reserved-2.ensures.items)
          (All-push (KnowsStarts known) c.loop-finished.pool.items own i.starts (ap (λ (v : V). v.starts) i.view_is));
      shares =
          omega (arith, i.shares, ap (λ (l : List W). shares_of l) c.push_reserved-2.ensures.items, shares_of-push c.loop-finished.pool.items own);
    }
