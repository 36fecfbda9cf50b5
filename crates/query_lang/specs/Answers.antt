-- What the answers of `parse` say of a text, and those of `together` of queries.
use Rattle.std.specs.Prelude.{◌≡◌, ℕ, List, Some, Ok, Err}
use Rattle.report_model.specs.Query.{Query, Alike}
use Rattle.report_model.specs.Grammar.{query}
use Rattle.report_model.specs.Together.{first_other_rule}
use Rattle.report_model.specs.declared.FaultInQuery.{FaultInQuery}
use Rattle.report_model.specs.declared.OtherRule.{OtherRule}

-- the text stands for q: the query that is written in it has the rule of q, and chooses the same bytes
pub record StandsFor (text : List ℕ) (q : Query) : Type 0 where
  pub written : Query
  pub stands : query text ≡ Ok written
  pub alike : Alike q written

-- the first fault of the text is told
abbrev pub IsTold : List ℕ → FaultInQuery → Type 0
IsTold text fault = query text ≡ Err (fault.line, fault.kind)

-- the first query whose rule differs is told, with its number and both rules
abbrev pub IsFirstOther : List Query → OtherRule → Type 0
IsFirstOther qs rule = first_other_rule qs ≡ Some (rule.first, rule.index, rule.other)
