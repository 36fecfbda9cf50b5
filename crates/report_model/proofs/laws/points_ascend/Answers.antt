use Rattle.report_model.proofs.Own as proof
use Rattle.report_model.proofs.laws.points_ascend.Goals as goal

pub returns : goal.returns
returns c = proof.query-points-ascend
