use Rattle.std.proofs.Common.{arith}
use Rattle.log_model.proofs.Words.{IsBytes-each}
use Rattle.call_record.proofs.transfer.Transfer.unless_refused.Goals as goal

pub returns-clause-are_bytes : goal.returns-clause-are_bytes
returns-clause-are_bytes c = IsBytes-each c.args.bytes.now (λ i. omega (arith, c.type_inv.bytes i))
