use Rattle.order_gateway.proofs.Answered.{an_answer}
use Rattle.order_gateway.proofs.Outcomes.{one_answer}
use Rattle.order_gateway.proofs.laws.one_bench_answer.Goals as goal

pub returns-clause-some : goal.returns-clause-some
returns-clause-some c = an_answer

pub returns-clause-one : goal.returns-clause-one
returns-clause-one c = one_answer
