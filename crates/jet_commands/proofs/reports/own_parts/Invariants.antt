use Rattle.std.proofs.Common.{◌≡◌, List, map, take}
use Rattle.flow_model.specs.declared.StepSeen.{StepSeen}
use Rattle.report_model.specs.Query.{Query}
use Rattle.report_model.specs.Rows.{rows}
use Rattle.jet_commands.specs.Answers.{IsUnion}
use Rattle.jet_commands.proofs.reports.own_parts.Given as goal

-- the rows of the first queries are there
abbrev pub invariant-loop-query : goal.invariant-loop-query
invariant-loop-query l = (union : Query) (steps : List StepSeen) → IsUnion l.queries union → l.all ≡ rows union steps → l.parts.items ≡ map (λ q. rows q steps) (take l.query-index l.queries)
