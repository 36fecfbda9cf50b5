use Rattle.std.proofs.Common.{◌≡◌, ◌++◌, drop}
use Rattle.std.specs.List.{flat_map}
use Rattle.report_model.specs.Query.{AreLocated}
use Rattle.query_lang.specs.Choices.{SameChoices}
use Rattle.query_lang.specs.Drafts.{choices_in}
use Rattle.query_lang.proofs.several.gathered.Given as goal

-- what was gathered, and what the queries that are left choose, is what all choose
abbrev pub invariant-loop-query : goal.invariant-loop-query
invariant-loop-query l = record {
  sources : SameChoices (choices_in l.sources ++ flat_map (λ q. q.sources) (drop l.query-index l.queries)) (flat_map (λ q. q.sources) l.queries);
  sinks : SameChoices (choices_in l.sinks ++ flat_map (λ q. q.sinks) (drop l.query-index l.queries)) (flat_map (λ q. q.sinks) l.queries);
  points : l.points.items ++ flat_map (λ q. q.points) (drop l.query-index l.queries) ≡ flat_map (λ q. q.points) l.queries;
  located : AreLocated l.points.items;
}
