use Rattle.std.proofs.Common.{sym, subst, ◌-◌}
use Rattle.epoch_model.specs.Summary.{IsSummary}
use Rattle.local_taint.proofs.Terms.{summary_is}
use Rattle.local_taint.proofs.analysis.summarize.Goals as goal

pub returns-clause-summary : goal.returns-clause-summary
returns-clause-summary c q trace first time found = subst (IsSummary q trace first (time - first)) (sym c.new.ensures.summary) (summary_is q trace first time c.args.tracked found)
