use Rattle.std.proofs.Common.{rules}
use Rattle.forward_pass.proofs.Reaching.{new_keeps, new_reached}
use Rattle.forward_pass.proofs.state.Fore.new.Goals as goal

pub returns-clause-keeps : goal.returns-clause-keeps
returns-clause-keeps c = new_keeps c.args.summary c.args.asked c.args.requests.items c.args.whole c.args.first c.args.last _ (search rules) c.requires.summary c.requires.last c.requires.counted

pub returns-clause-reached : goal.returns-clause-reached
returns-clause-reached c = new_reached c.args.summary c.args.asked c.args.requests.items c.args.whole c.args.first c.args.last _ (search rules)
