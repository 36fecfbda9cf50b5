use Rattle.order_gateway.proofs.SameNumbers.{same_numbers}
use Rattle.order_gateway.proofs.laws.alike_have_same_numbers.Goals as goal

pub returns : goal.returns
returns c = same_numbers
