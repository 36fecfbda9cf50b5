use Rattle.merge_log.proofs.Terms.{ascend-terms}
use Rattle.merge_log.proofs.nodes.MergeLog.form.Goals as goal

pub returns-clause-sets : goal.returns-clause-sets
returns-clause-sets c n = ascend-terms c.args.self.now n
