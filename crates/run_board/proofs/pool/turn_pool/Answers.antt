use Rattle.std.proofs.Common.{◌≡◌, ℕ, List, All, length, sym, subst, arith, ap, ◌∙◌, take, drop, ◌++◌}
use Rattle.std.proofs.Math.Seq.{take-append_seam}
use Rattle.crossbeam_queue.specs.Passes.{IsPassOf, ruled_capacity}
use Rattle.run_board.specs.declared.worker.Worker.{Worker}
use Rattle.run_board.specs.Workers.{IsReady, KnowsStarts, shares_of}
use Rattle.run_board.proofs.pool.turn_pool.Goals as goal

-- a slice of a whole list, put back into it
whole : {X : Type 0} (count : ℕ) (new old : List X) → count ≡ length new → take count (new ++ drop (length new) old) ≡ new
whole count new old same = ap (λ n. take n (new ++ drop (length new) old)) same ∙ take-append_seam new (drop (length new) old)

pub returns-clause-starts : goal.returns-clause-starts
returns-clause-starts g c = λ starts all.
    let is = whole c.args.pool.now.len c.turn_at_once.new.pool c.args.pool.now.items (omega (arith, c.as_mut_slice.ensures.len, c.turn_at_once.auto.pool)) in
    subst (All (KnowsStarts starts)) (sym is) (c.turn_at_once.ensures.starts starts (subst (All (KnowsStarts starts)) (sym c.as_mut_slice.ensures.value) all))

pub returns-clause-ready : goal.returns-clause-ready
returns-clause-ready g c =
    let is = whole c.args.pool.now.len c.turn_at_once.new.pool c.args.pool.now.items (omega (arith, c.as_mut_slice.ensures.len, c.turn_at_once.auto.pool)) in
    subst (All (IsReady g.T.Numbered.words (ruled_capacity c.args.queue.now) (IsPassOf c.args.queue.now))) (sym is) c.turn_at_once.ensures.ready

pub returns-clause-shares : goal.returns-clause-shares
returns-clause-shares g c =
    let shares : List (Worker g.row.T.Denot) → ℕ = λ l. shares_of l in
    let is = whole c.args.pool.now.len c.turn_at_once.new.pool c.args.pool.now.items (omega (arith, c.as_mut_slice.ensures.len, c.turn_at_once.auto.pool)) in
    ap shares is ∙ c.turn_at_once.ensures.shares ∙ ap shares c.as_mut_slice.ensures.value
