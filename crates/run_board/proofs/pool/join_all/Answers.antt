use Rattle.std.proofs.Common.{◌≡◌, ◌+◌, List, length, All, refl, sym, ap, ◌∙◌, subst, arith}
use Rattle.std.specs.Vec.Iter.{into_iter_items}
use Rattle.std.proofs.lemmas.List.{nil_from_length}
use Rattle.std.proofs.lemmas.List.Sums.{sum_by-cons}
use Rattle.std.proofs.lemmas.List.Elements.{All-head, All-rest}
use Rattle.crossbeam_queue.specs.Passes.{IsPassOf, ruled_capacity}
use Rattle.run_board.specs.declared.worker.Worker.{Worker}
use Rattle.run_board.specs.Workers.{IsReady, KnowsStarts, view_of, shares_of}
use Rattle.run_board.proofs.pool.join_all.Goals as goal

pub loop-other-preserved : goal.loop-other-preserved
loop-other-preserved g c =
    let W : Type 0 = Worker g.row.T.Denot in
    let Ready : W → Type 0 = λ w. IsReady g.T.Numbered.words (ruled_capacity c.args.queue.now) (IsPassOf c.args.queue.now) w in
    let known = (view_of c.args.worker.now).starts in
    let i = c.loop-other.invariant in
    let e = c.in-Some.ensures.steps.0 in
    let rest = into_iter_items c.next.new.self in
    let shares = ap (λ (l : List W). shares_of l) e ∙ sum_by-cons (λ (w : W). (view_of w).shares) c.in-Some.other rest in
    record {
      ready = c.join.ensures.ready;
      starts = c.join.ensures.starts ∙ i.starts;
      others_ready = All-rest Ready c.in-Some.other rest _ e i.others_ready;
      others_start = All-rest (KnowsStarts known) c.in-Some.other rest _ e i.others_start;
      shares = omega (arith, c.join.ensures.shares, i.shares, shares);
    }

pub loop-other-init : goal.loop-other-init
loop-other-init g c =
    let W : Type 0 = Worker g.row.T.Denot in
    let Ready : W → Type 0 = λ w. IsReady g.T.Numbered.words (ruled_capacity c.args.queue.now) (IsPassOf c.args.queue.now) w in
    let known = (view_of c.args.worker.now).starts in
    let e = c.into_iter-other-iterator.ensures.into_iter_gives.0 in
    record {
      ready = c.requires.ready;
      starts = refl;
      others_ready = subst (All Ready) (sym e) c.requires.others_ready;
      others_start = subst (All (KnowsStarts known)) (sym e) c.requires.others_starts;
      shares = ap (λ (l : List W). (view_of c.args.worker.now).shares + shares_of l) e;
    }

pub join-requires-clause-other_ready : goal.join-requires-clause-other_ready
join-requires-clause-other_ready g c κs within =
    let Ready : Worker g.row.T.Denot → Type 0 = λ w. IsReady g.T.Numbered.words (ruled_capacity c.args.queue.now) (IsPassOf c.args.queue.now) w in
    All-head Ready c.in-Some.other (into_iter_items c.next.new.self) (subst (All Ready) c.in-Some.ensures.steps.0 c.loop-other.invariant.others_ready)

pub join-requires-clause-other_starts : goal.join-requires-clause-other_starts
join-requires-clause-other_starts g c κs within =
    let i = c.loop-other.invariant in
    let known = (view_of c.args.worker.now).starts in
    All-head (KnowsStarts known) c.in-Some.other (into_iter_items c.next.new.self) (subst (All (KnowsStarts known)) c.in-Some.ensures.steps.0 i.others_start) ∙ sym i.starts

pub returns-clause-shares : goal.returns-clause-shares
returns-clause-shares g c =
    let rest : List (Worker g.row.T.Denot) = into_iter_items c.loop-other.other-iterator in
    let none : length rest ≡ 0 = omega (arith, c.in-None.ensures.steps.0, c.loop-other.other-iterator.rest.ok) in
    omega (arith, c.loop-other.invariant.shares, ap (λ (l : List (Worker g.row.T.Denot)). shares_of l) (nil_from_length rest none))
