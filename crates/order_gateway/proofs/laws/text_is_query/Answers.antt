use Rattle.order_gateway.proofs.Guests.{text-query}
use Rattle.order_gateway.proofs.laws.text_is_query.Goals as goal

pub returns : goal.returns
returns c = text-query
