-- What the lines of a text come to, one after the other.
use Rattle.std.specs.Prelude.{◌≡◌, ℕ, ◌||◌, is_some, List, ◌∷◌, ◌++◌, Option, Some, None, Result}
use Rattle.lists.specs.Sets.{set_of}
use Rattle.flow_model.specs.declared.InnerSink.{InnerSink}
use Rattle.flow_model.specs.declared.Rule.{Rule}
use Rattle.flow_model.specs.Orders.{inner_cmp}
use Rattle.report_model.specs.declared.QueryKind.{QueryKind}
use Rattle.report_model.specs.declared.QueryKind.TheVariants.{NoRule}
use Rattle.report_model.specs.Query.{Choice, Query, Alike}
use Rattle.report_model.specs.Grammar.{Statement, line_fault, rule_in, sources_in, sinks_in, points_in, rule_among}
use Rattle.report_model.specs.declared.FaultInQuery.{FaultInQuery}
use Rattle.query_lang.specs.declared.chosen.Selection.{Selection}
use Rattle.query_lang.specs.declared.draft.Draft.{Draft}
use Rattle.query_lang.specs.Choices.{choices_of, SameChoices}

-- what the lines so far choose
abbrev pub choices_in : Selection → List Choice
choices_in g = choices_of g.all g.spans.items

-- the rule so far, or else that of the lines that are left
abbrev pub rule_with : Option Rule → List (Result (Option Statement) QueryKind) → Rule
rule_with None left = rule_among left
rule_with (Some rule) left = rule

-- what the line says is no fault, and was taken up
pub record TakesUp (old : Draft) (line : Result (Option Statement) QueryKind) (new : Draft) : Type 0 where
  pub clean : line_fault (is_some old.rule) line ≡ None
  pub after_rule : is_some new.rule ≡ (is_some old.rule || is_some (rule_in line))
  pub rule : (left : List (Result (Option Statement) QueryKind)) → rule_with old.rule (line ∷ left) ≡ rule_with new.rule left
  pub sources : SameChoices (choices_in new.sources) (choices_in old.sources ++ sources_in line)
  pub sinks : SameChoices (choices_in new.sinks) (choices_in old.sinks ++ sinks_in line)
  pub points : new.points.items ≡ old.points.items ++ points_in line

-- the line with this number is at fault
abbrev pub IsFaultIn : ℕ → Draft → Result (Option Statement) QueryKind → FaultInQuery → Type 0
IsFaultIn number draft line fault = (fault.line ≡ number) × (line_fault (is_some draft.rule) line ≡ Some fault.kind)

-- the query by this rule of what these choose, of the points each once
abbrev pub query_by : Rule → Selection → Selection → List InnerSink → Query
query_by rule sources sinks points = record {
  rule = rule;
  sources = choices_in sources;
  sinks = choices_in sinks;
  points = set_of inner_cmp points;
}

-- the query has the draft's rule, and chooses what it does
pub record IsFinished (draft : Draft) (q : Query) : Type 0 where
  pub rule : draft.rule ≡ Some q.rule
  pub alike : Alike q (query_by q.rule draft.sources draft.sinks draft.points.items)

-- no line named a rule
abbrev pub IsUnfinished : Draft → FaultInQuery → Type 0
IsUnfinished draft fault = (draft.rule ≡ None) × (fault.line ≡ 0) × (fault.kind ≡ NoRule)
