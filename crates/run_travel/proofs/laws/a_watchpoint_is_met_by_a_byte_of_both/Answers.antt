use Rattle.run_travel.proofs.Meeting.{some_byte}
use Rattle.run_travel.proofs.laws.a_watchpoint_is_met_by_a_byte_of_both.Goals as goal

pub returns : goal.returns
returns c = some_byte
