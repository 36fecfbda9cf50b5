use Rattle.std.proofs.Common.{arith, ◌≡◌, ◌+◌, ◌∷◌, ◌++◌, [], ap, sym, refl, subst, ℕ, List, length, true, Ok, Bor}
use Rattle.std.proofs.lemmas.List.{length_push, take_all}
use Rattle.std.proofs.lemmas.Result.{err_from_is_err_and}
use Rattle.report_model.specs.Query.{Query}
use Rattle.outer_io.specs.Reads.{Reads}
use Rattle.outer_io.proofs.TellsLemmas.{tells-same}
use Rattle.jet_model.specs.Contents.{queries_at}
use Rattle.command_parts.specs.Outcome.{HeldBefore, IsOutcomeBy}
use Rattle.jet_commands.specs.Outcome.{AreAllAlike}
use Rattle.outer_io.proofs.ReadsLemmas.{reads-none}
use Rattle.jet_commands.proofs.Several.{texts, queries_in_order, one_more, one_refused, reads_more, reads_some}
use Rattle.jet_commands.proofs.queries.open_queries.Goals as goal

pub loop-name-init : goal.loop-name-init
loop-name-init g c =
    let shown = g.S.Store.shown c.args.store.now in
    let queries : List Query = c.new-queries.result.items in
    let none : queries ≡ [] = c.new-queries.ensures.items in
    record {
      outcome = subst (λ (w : List Query). IsOutcomeBy (λ file kept. AreAllAlike kept (queries_at file [])) shown shown (Ok w)) (sym none)
          (refl, tells-same shown.files (HeldBefore (λ file. AreAllAlike (Ok []) (queries_at file []))) (λ x. record { held = tt }));
      many = ap length none;
      number = refl;
      reads = reads-none shown;
    }

pub loop-name-preserved : goal.loop-name-preserved
loop-name-preserved g c =
    let names = c.args.names.now in
    let index : ℕ = c.loop-name.name-index in
    let before = g.S.Store.shown c.args.store.now in
    let between = g.S.Store.shown c.loop-name.store in
    let after = g.S.Store.shown c.open_query.new.store in
    let queries = c.loop-name.queries.items in
    let more = c.push.new.self.items in
    let query = c.in_ok-query.query in
    let i = c.loop-name.invariant in
    let number : c.loop-name.number + 1 ≡ index + 1 = omega (arith, i.number) in
    let pushed : more ≡ queries ++ query ∷ [] = c.in_ok-push.ensures.items in
    record {
      outcome = one_more queries_in_order names index (c.loop-name.number + 1) _ queries before between after c.loop-name-test.true number i.outcome i.reads query more pushed c.in_ok-query.ensures.outcome;
      many = omega (arith, ap length pushed, length_push queries query, i.many);
      number = number;
      reads = reads_more names index _ before between after c.loop-name-test.true i.reads c.open_query.ensures.reads;
    }

-- a file was refused
pub returns-in_err-query : goal.returns-in_err-query
returns-in_err-query g c =
    let names = c.args.names.now in
    let index : ℕ = c.loop-name.name-index in
    let i = c.loop-name.invariant in
    let before = g.S.Store.shown c.args.store.now in
    let between = g.S.Store.shown c.loop-name.store in
    let after = g.S.Store.shown c.open_query.new.store in
    let number : c.loop-name.number + 1 ≡ index + 1 = omega (arith, i.number) in
    let p = err_from_is_err_and c.from_residual.result c.from_residual.ensures.1 in
    rw (p.1, p.2) (record {
      outcome = one_refused queries_in_order names index (c.loop-name.number + 1) _ c.loop-name.queries.items before between after c.loop-name-test.true number i.outcome i.reads _ c.in_err-query.ensures.reads c.in_err-query.ensures.outcome;
      many = tt;
      reads = reads_some names index _ before between after c.loop-name-test.true i.reads c.in_err-query.ensures.reads;
    })

pub returns-in_err-push-clause-reads : goal.returns-in_err-push-clause-reads
returns-in_err-push-clause-reads g c =
    let p = err_from_is_err_and c.from_residual-in_err-push.result c.from_residual-in_err-push.ensures.1 in
    rw p.1 (reads_some c.args.names.now c.loop-name.name-index _ _ (g.S.Store.shown c.loop-name.store) _ c.loop-name-test.true c.loop-name.invariant.reads c.in_ok-query.ensures.reads)

-- all were read
pub returns-clause-outcome : goal.returns-clause-outcome
returns-clause-outcome g c =
    subst (λ (w : List (Bor (List ℕ))). IsOutcomeBy (λ file kept. AreAllAlike kept (queries_at file (texts w))) (g.S.Store.shown c.args.store.now) (g.S.Store.shown c.loop-name.store) (Ok c.loop-name.queries.items))
    (take_all c.loop-name.name-index c.args.names.now c.loop-name-test.false) c.loop-name.invariant.outcome

pub returns-clause-reads : goal.returns-clause-reads
returns-clause-reads g c =
    subst (λ (w : List (Bor (List ℕ))). Reads (texts w) true (g.S.Store.shown c.args.store.now) (g.S.Store.shown c.loop-name.store))
    (take_all c.loop-name.name-index c.args.names.now c.loop-name-test.false) c.loop-name.invariant.reads
