use Rattle.debug_model.proofs.Writing.{nothing_between, nothing_before, step_wrote_it}
use Rattle.debug_model.proofs.laws.who_wrote.Goals as goal

pub returns : goal.returns
returns c =
    let some = c.a_watchpoint_is_met_by_a_byte_of_both.ensures in
    let passed = c.nothing_is_passed_over.ensures.back in
    record {
      between = nothing_between some passed;
      before = nothing_before some passed;
      step = step_wrote_it some passed;
    }
