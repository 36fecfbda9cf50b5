use Rattle.report_model.proofs.Own as proof
use Rattle.report_model.proofs.laws.only_is_own.Goals as goal

pub returns : goal.returns
returns c = proof.only_is_own
