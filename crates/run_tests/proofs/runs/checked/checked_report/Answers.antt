use Rattle.std.proofs.Common.{rules}
use Rattle.run_tests.proofs.runs.checked.checked_report.Goals as goal

-- the clauses of the four closures
pub check_and_query-checked-requires-clause-ready :
    goal.check_and_query-checked-requires-clause-ready
check_and_query-checked-requires-clause-ready g c = (
  λ program log query cuts parallelism cutting. ((cutting, (search rules, search rules)), λ r post. post.4),
  (
    λ points query cuts parallelism begins. (((begins, (search rules, search rules)), λ r post. post.2), ((begins, (search rules, search rules)), λ r post. post.2)),
    λ rows workers. (search rules, λ r post. post),
  ),
)
