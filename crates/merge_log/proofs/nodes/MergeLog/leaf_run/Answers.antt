use Rattle.merge_log.specs.Log.{run_entry}
use Rattle.merge_log.proofs.Keys.{noted_here, noted_terms}
use Rattle.merge_log.proofs.nodes.MergeLog.leaf_run.Goals as goal

-- the node that was noted lately is that of the run
pub returns-then-is_leaf_of-clause-noted : goal.returns-then-is_leaf_of-clause-noted
returns-then-is_leaf_of-clause-noted c = noted_here c.args.self.now (run_entry c.args.run) _ (c.is_leaf_of.ensures c.if-is_leaf_of.true)

pub returns-then-is_leaf_of-clause-terms : goal.returns-then-is_leaf_of-clause-terms
returns-then-is_leaf_of-clause-terms c =
    let log = c.args.self.now in
    noted_terms log (run_entry c.args.run) log _ c.form.ensures.log (noted_here log (run_entry c.args.run) _ (c.is_leaf_of.ensures c.if-is_leaf_of.true))
