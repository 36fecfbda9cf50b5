use Rattle.range_report.proofs.Longest.{runs_hold_rows, runs_alone}
use Rattle.range_report.proofs.laws.runs_are_longest.Goals as goal

pub returns-clause-rows : goal.returns-clause-rows
returns-clause-rows c = runs_hold_rows

pub returns-clause-alone : goal.returns-clause-alone
returns-clause-alone c = runs_alone
