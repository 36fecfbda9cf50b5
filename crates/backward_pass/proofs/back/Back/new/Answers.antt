use Rattle.std.proofs.Common.{rules}
use Rattle.backward_pass.proofs.Reaching.{reached_made}
use Rattle.backward_pass.proofs.back.Back.new.Goals as goal

pub returns-clause-reached : goal.returns-clause-reached
returns-clause-reached c = reached_made c.args.summary c.args.first c.args.last _ (search rules)
