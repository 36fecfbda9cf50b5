use Rattle.order_gateway.proofs.Outcomes.{long_log-outcome, many_epochs-outcome, lines-outcome}
use Rattle.order_gateway.proofs.laws.logs_come_to_lines.Goals as goal

pub returns-clause-long : goal.returns-clause-long
returns-clause-long c = long_log-outcome

pub returns-clause-many : goal.returns-clause-many
returns-clause-many c = many_epochs-outcome

pub returns-clause-lines : goal.returns-clause-lines
returns-clause-lines c = lines-outcome
