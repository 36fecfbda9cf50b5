use Rattle.std.proofs.Common.{◌≡◌, ◌+◌, drop, length}
use Rattle.report_model.specs.Together.{other_rule, first_other_rule}
use Rattle.query_lang.proofs.several.rule_of_all.Given as goal

-- the first of the queries that are left whose rule differs is the first of all
abbrev pub invariant-loop-query : goal.invariant-loop-query
invariant-loop-query l = record {
  counted : l.number ≡ l.query-index + 1;
  others : length l.queries ≡ length l.query-items + 1;
  left : other_rule l.first (l.number + 1) (drop l.query-index l.query-items) ≡ first_other_rule l.queries;
}
