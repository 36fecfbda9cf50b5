use Rattle.run_travel.proofs.Passing.{none_on, none_back}
use Rattle.run_travel.proofs.laws.nothing_is_passed_over.Goals as goal

pub returns-clause-on : goal.returns-clause-on
returns-clause-on c = none_on

pub returns-clause-back : goal.returns-clause-back
returns-clause-back c = none_back
