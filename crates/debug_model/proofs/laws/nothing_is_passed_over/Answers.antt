use Rattle.debug_model.proofs.Travelling.{passed_forward, passed_back}
use Rattle.debug_model.proofs.laws.nothing_is_passed_over.Goals as goal

pub returns : goal.returns
returns c = record {
  forward = passed_forward c.nothing_is_passed_over.ensures.on;
  back = passed_back c.nothing_is_passed_over.ensures.back;
}
