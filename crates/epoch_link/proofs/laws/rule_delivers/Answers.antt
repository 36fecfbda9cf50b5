use Rattle.epoch_link.proofs.Delivery.{rule_delivers}
use Rattle.epoch_link.proofs.laws.rule_delivers.Goals as goal

pub returns : goal.returns
returns g c = rule_delivers
