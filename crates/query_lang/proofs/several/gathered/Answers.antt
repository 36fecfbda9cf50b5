use Rattle.std.proofs.Common.{refl, length, arith, ap}
use Rattle.std.proofs.lemmas.Result.{IfOk-weaker}
use Rattle.report_model.specs.Query.{Alike}
use Rattle.report_model.specs.Together.{together}
use Rattle.query_lang.specs.Drafts.{choices_in, query_by}
use Rattle.std.proofs.lemmas.List.Elements.{All-append}
use Rattle.flow_model.specs.Ranges.{IsLocation}
use Rattle.query_lang.proofs.GatherLemmas.{chosen_on, points_on, all_gathered}
use Rattle.query_lang.proofs.several.gathered.Goals as goal

pub returns : goal.returns
returns c =
    let before = c.loop-query in
    let points = before.points.items in
    IfOk-weaker c.of.result (λ q. Alike q (query_by c.args.rule before.sources before.sinks points)) (λ q. Alike q (together c.args.queries.now))
    (λ q a. all_gathered c.args.queries.now before.query-index c.args.rule before.sources before.sinks points q c.loop-query-test.false c.requires before.invariant.sources before.invariant.sinks before.invariant.points a) c.of.ensures

pub loop-query-init : goal.loop-query-init
loop-query-init c =
    let none = c.new-points.ensures.items in
    record {
      sources = λ channel offset. rw c.new-sources.ensures refl;
      sinks = λ channel offset. rw c.new-sinks.ensures refl;
      points = rw none refl;
      located = λ k d below. absurd (omega (arith, below, ap length none));
    }

pub loop-query-preserved : goal.loop-query-preserved
loop-query-preserved c =
    let queries = c.args.queries.now in
    let before = c.loop-query in
    let i = before.query-index in
    let query = c.query-item.result in
    let new = c.add_to.new in
    let added = c.in_ok-add_to.ensures in
    let so_far = before.invariant in
    record {
      sources = chosen_on (λ q. q.sources) queries i query (choices_in before.sources) (choices_in new.sources) c.loop-query-test.true c.query-item.is added.sources so_far.sources;
      sinks = chosen_on (λ q. q.sinks) queries i query (choices_in before.sinks) (choices_in new.sinks) c.loop-query-test.true c.query-item.is added.sinks so_far.sinks;
      points = points_on queries i query before.points.items new.points.items c.loop-query-test.true c.query-item.is added.points so_far.points;
      located = rw added.points (All-append (λ p. IsLocation p.loc) before.points.items query.points so_far.located added.located);
    }
