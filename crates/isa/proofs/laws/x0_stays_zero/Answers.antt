use Rattle.isa.proofs.ZeroRegister.{step_keeps, answer_keeps}
use Rattle.isa.proofs.laws.x0_stays_zero.Goals as goal

pub returns-clause-step : goal.returns-clause-step
returns-clause-step c = step_keeps

pub returns-clause-answer : goal.returns-clause-answer
returns-clause-answer c = answer_keeps
