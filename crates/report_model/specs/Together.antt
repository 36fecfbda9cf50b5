-- Several queries at once: one query that covers them all, and what of its rows is each one's own.
use Rattle.std.specs.Prelude.{◌≡◌, ℕ, ◌+◌, Bool, true, false, if◌then◌else◌, List, [], ◌∷◌, map, Option, Some, None}
use Rattle.std.specs.List.{filter, flat_map}
use Rattle.flow_model.specs.declared.InnerSink.{InnerSink}
use Rattle.flow_model.specs.declared.Rule.{Rule}
use Rattle.flow_model.specs.declared.Rule.TheVariants.{Copy, Keep, Compute, Index}
use Rattle.flow_model.specs.Orders.{inner_cmp}
use Rattle.lists.specs.Sets.{set_of, has}
use Rattle.report_model.specs.Query.{Query, chooses, has_source, has_sink}
use Rattle.report_model.specs.Rows.{Row}

-- u has q's rule, and chooses each source byte, each output byte and each point that q chooses
pub record Covers (u q : Query) : Type 0 where
  pub rule : u.rule ≡ q.rule
  pub sources : (c o : ℕ) → chooses q.sources c o ≡ true → chooses u.sources c o ≡ true
  pub sinks : (c o : ℕ) → chooses q.sinks c o ≡ true → chooses u.sinks c o ≡ true
  pub points : (p : InnerSink) → has inner_cmp p q.points ≡ true → has inner_cmp p u.points ≡ true

-- the rows of what q chooses, each with those of its source bytes that q chooses
abbrev pub only : Query → List Row → List Row
only q rs = map (λ r. record { sink = r.sink; sources = filter (has_source q) r.sources }) (filter (λ r. has_sink q r.sink) rs)

-- ---- one query that chooses what any of several does

abbrev pub first_rule : List Query → Rule
first_rule [] = Copy
first_rule (q ∷ qs) = q.rule

-- by the rule of the first: all their choices, and each of their points once
abbrev pub together : List Query → Query
together qs = record {
  rule = first_rule qs;
  sources = flat_map (λ q. q.sources) qs;
  sinks = flat_map (λ q. q.sinks) qs;
  points = set_of inner_cmp (flat_map (λ q. q.points) qs);
}

abbrev pub is_same_rule : Rule → Rule → Bool
is_same_rule Copy Copy = true
is_same_rule Copy Keep = false
is_same_rule Copy Compute = false
is_same_rule Copy Index = false
is_same_rule Keep Copy = false
is_same_rule Keep Keep = true
is_same_rule Keep Compute = false
is_same_rule Keep Index = false
is_same_rule Compute Copy = false
is_same_rule Compute Keep = false
is_same_rule Compute Compute = true
is_same_rule Compute Index = false
is_same_rule Index Copy = false
is_same_rule Index Keep = false
is_same_rule Index Compute = false
is_same_rule Index Index = true

-- the first of these queries, of which the first has the number n, whose rule isn't this one: this rule, its number and
-- its own rule
abbrev pub other_rule : Rule → ℕ → List Query → Option (Rule × ℕ × Rule)
other_rule rule n [] = None
other_rule rule n (q ∷ qs) = if is_same_rule rule q.rule then other_rule rule (n + 1) qs else Some (rule, n, q.rule)

-- where a rule differs from the first query's: that rule, the number of the first query that differs, counted from 1,
-- and its rule
abbrev pub first_other_rule : List Query → Option (Rule × ℕ × Rule)
first_other_rule [] = None
first_other_rule (q ∷ qs) = other_rule q.rule 2 qs
