use Rattle.std.proofs.Common.{◌≡◌, refl, subst, map, is_ok, List, [], ◌∷◌, ℕ, Bor}
use Rattle.jet_model.specs.Answer.{queries_answer, run_answer}
use Rattle.order_gateway.specs.Answer.{IsBenchAnswer}
use Rattle.outer_io.proofs.ReadsLemmas.{reads-none, reads-less}
use Rattle.command_parts.specs.Outcome.{seen_by}
use Rattle.jet_commands.specs.Targets.{ToOutput, ToFile}
use Rattle.jet_commands.specs.Answers.{IsRecording, limits_of, stacks_by, workload_length}
use Rattle.jet_commands.specs.Obeying.{given_text, Gives}
use Rattle.jet_commands.proofs.Giving.{by_arm, untimed}
use Rattle.jet_commands.proofs.Benching.{outcome_by-always}
use Rattle.jet_commands.proofs.answer.answer.Goals as goal

pub returns-in-Analysis : goal.returns-in-Analysis
returns-in-Analysis g c = untimed (g.S.Store.shown c.args.store.now) (g.S.Store.shown c.analysis.new.store) (g.K.Clock.answers c.args.clock.now) _ c.analysis.result c.in-Analysis.is refl c.analysis.ensures

pub returns-in-Page : goal.returns-in-Page
returns-in-Page g c = untimed (g.S.Store.shown c.args.store.now) (g.S.Store.shown c.analysis-in-Page.new.store) (g.K.Clock.answers c.args.clock.now) _ c.analysis-in-Page.result c.in-Page.is refl c.analysis-in-Page.ensures

pub returns-in-Decisions : goal.returns-in-Decisions
returns-in-Decisions g c = untimed (g.S.Store.shown c.args.store.now) (g.S.Store.shown c.decisions.new.store) (g.K.Clock.answers c.args.clock.now) _ c.decisions.result c.in-Decisions.is refl c.decisions.ensures

pub returns-in-Queries : goal.returns-in-Queries
returns-in-Queries g c =
    let q = c.in-Queries in
    let f = g.S.Store.shown c.args.store.now in
    let h = g.S.Store.shown c.queries.new.store in
    untimed f h (g.K.Clock.answers c.args.clock.now) _ c.queries.result q.is refl
    (subst (λ (names : List (Bor (List ℕ))). Gives (λ file answer. queries_answer q.pipeline.epoch file q.program.now q.log.now (map (λ (s : Bor (List ℕ)). s.now) names) ≡ answer) (q.program.now ∷ q.log.now ∷ map (λ (s : Bor (List ℕ)). s.now) names) ToOutput f h c.queries.result) c.deref.ensures.value c.queries.ensures)

pub returns-in-Product : goal.returns-in-Product
returns-in-Product g c = untimed (g.S.Store.shown c.args.store.now) (g.S.Store.shown c.run_product.new.store) (g.K.Clock.answers c.args.clock.now) _ c.run_product.result c.in-Product.is refl c.run_product.ensures

pub returns-in-Stacks : goal.returns-in-Stacks
returns-in-Stacks g c =
    let s = c.in-Stacks in
    let f = g.S.Store.shown c.args.store.now in
    let h = g.S.Store.shown c.run_product-in-Stacks.new.store in
    untimed f h (g.K.Clock.answers c.args.clock.now) _ c.run_product-in-Stacks.result s.is refl
    (subst (λ (times : List ℕ). Gives (λ file answer. run_answer file s.program.now s.log.now (stacks_by times) ≡ answer) (s.program.now ∷ s.log.now ∷ []) ToOutput f h c.run_product-in-Stacks.result) c.as_slice.ensures.value c.run_product-in-Stacks.ensures)

pub returns-in-Core : goal.returns-in-Core
returns-in-Core g c = untimed (g.S.Store.shown c.args.store.now) (g.S.Store.shown c.run_product-in-Core.new.store) (g.K.Clock.answers c.args.clock.now) _ c.run_product-in-Core.result c.in-Core.is refl c.run_product-in-Core.ensures

pub returns-in-Convert : goal.returns-in-Convert
returns-in-Convert g c = untimed (g.S.Store.shown c.args.store.now) (g.S.Store.shown c.run_product-in-Convert.new.store) (g.K.Clock.answers c.args.clock.now) _ c.run_product-in-Convert.result c.in-Convert.is refl c.run_product-in-Convert.ensures

pub returns-in-Record : goal.returns-in-Record
returns-in-Record g c =
    let r = c.in-Record in
    let f = g.S.Store.shown c.args.store.now in
    let h = g.S.Store.shown c.record.new.store in
    let heard = g.K.Clock.answers c.args.clock.now in
    let heard_after = g.K.Clock.answers c.record.new.clock in
    by_arm f h heard heard_after _ c.record.result r.is (record {
      gives = subst (λ (names : List (Bor (List ℕ))). Gives (IsRecording r.program.now (map (λ (s : Bor (List ℕ)). s.now) names) (limits_of r.pages r.piece r.steps) heard heard_after) (r.program.now ∷ map (λ (s : Bor (List ℕ)). s.now) names) (ToFile r.log.now) f h c.record.result) c.deref-in-Record.ensures.value c.record.ensures.gives;
      clock = tt;
      unasked = c.record.ensures.unasked;
    })

pub returns-in-Bench : goal.returns-in-Bench
returns-in-Bench g c =
    let b = c.in-Bench in
    let f = g.S.Store.shown c.args.store.now in
    untimed f f (g.K.Clock.answers c.args.clock.now) _ c.bench.result b.is refl (record {
      answer = outcome_by-always (IsBenchAnswer b.seed b.steps (workload_length b.pipeline)) f (seen_by given_text c.bench.result) c.bench.ensures.answer;
      goes = c.bench.ensures.goes;
      reads = reads-less (is_ok c.bench.result) (reads-none f);
    })
