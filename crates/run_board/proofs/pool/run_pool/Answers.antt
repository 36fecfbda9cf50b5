use Rattle.std.proofs.Common.{Some, List, All, sym, ◌∙◌, subst}
use Rattle.crossbeam_queue.specs.Passes.{IsPassOf, ruled_capacity}
use Rattle.run_board.specs.Workers.{IsReady, KnowsStarts}
use Rattle.std.proofs.lemmas.List.Elements.{All-pop}
use Rattle.run_board.proofs.pool.run_pool.Goals as goal

pub join_all-requires-clause-ready : goal.join_all-requires-clause-ready
join_all-requires-clause-ready g c κs within =
    (All-pop (IsReady g.T.Numbered.words (ruled_capacity c.args.queue.now) (IsPassOf c.args.queue.now)) _ _ (Some c.in-Some.worker) c.in-Some.ensures.items
    c.turn_pool.ensures.ready).1

pub join_all-requires-clause-others_ready : goal.join_all-requires-clause-others_ready
join_all-requires-clause-others_ready g c κs within =
    (All-pop (IsReady g.T.Numbered.words (ruled_capacity c.args.queue.now) (IsPassOf c.args.queue.now)) _ _ (Some c.in-Some.worker) c.in-Some.ensures.items
    c.turn_pool.ensures.ready).0

pub join_all-requires-clause-others_starts : goal.join_all-requires-clause-others_starts
join_all-requires-clause-others_starts g c κs within =
    let agree = c.requires.agree in
    let r = All-pop (KnowsStarts agree.0) _ c.pop.new.self.items (Some c.in-Some.worker) c.in-Some.ensures.items (c.turn_pool.ensures.starts agree.0 agree.1) in
    subst (λ (s : List g.row.T.Denot). All (KnowsStarts s) c.pop.new.self.items) (sym r.1) r.0

pub returns-clause-starts : goal.returns-clause-starts
returns-clause-starts g c = λ s all.
    let r = All-pop (KnowsStarts s) _ c.pop.new.self.items (Some c.in-Some.worker) c.in-Some.ensures.items (c.turn_pool.ensures.starts s all) in
    c.join_all.ensures.starts ∙ r.1
