use Rattle.order_gateway.proofs.Outcomes.{answer-is_lines, lines-are_answer}
use Rattle.order_gateway.proofs.laws.bench_answer_is_lines.Goals as goal

pub returns-clause-answer : goal.returns-clause-answer
returns-clause-answer c = answer-is_lines

pub returns-clause-lines : goal.returns-clause-lines
returns-clause-lines c = lines-are_answer
