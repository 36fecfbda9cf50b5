-- What is always true of several queries taken together.
use Rattle.std.specs.Prelude.{◌≡◌, ℕ, List, None, Ok, All}
use Rattle.flow_model.specs.declared.StepSeen.{StepSeen}
use Rattle.lists.specs.Sets.{Ascends}
use Rattle.flow_model.specs.Orders.{inner_cmp}
use Rattle.report_model.specs.Query.{Query}
use Rattle.report_model.specs.Grammar.{query}
use Rattle.report_model.specs.Rows.{rows}
use Rattle.report_model.specs.Together.{Covers, only, together, first_other_rule}

-- the points of a query that a text stands for ascend
abbrev pub PointsAscend : Type 0
PointsAscend = (text : List ℕ) (q : Query) → query text ≡ Ok q → Ascends inner_cmp q.points

-- where u covers q, q's rows are what of u's rows is q's own
abbrev pub OnlyIsOwn : Type 0
OnlyIsOwn = (u q : Query) (trace : List StepSeen) → Covers u q → Ascends inner_cmp q.points → Ascends inner_cmp u.points → rows q trace ≡ only q (rows u trace)

-- where no rule differs, the queries together cover each of them
abbrev pub TogetherCovers : Type 0
TogetherCovers = (qs : List Query) → first_other_rule qs ≡ None → All (Covers (together qs)) qs

-- and the points of all ascend
abbrev pub TogetherAscends : Type 0
TogetherAscends = (qs : List Query) → Ascends inner_cmp (together qs).points

-- so each one's rows are its own of the rows of all together
abbrev pub EachIsOwn : Type 0
EachIsOwn = (qs : List Query) (trace : List StepSeen) → first_other_rule qs ≡ None → All (λ q. Ascends inner_cmp q.points) qs
    → All (λ q. rows q trace ≡ only q (rows (together qs) trace)) qs
