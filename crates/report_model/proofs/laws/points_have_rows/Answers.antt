use Rattle.report_model.proofs.PointRows as proof
use Rattle.report_model.proofs.laws.points_have_rows.Goals as goal

pub returns : goal.returns
returns c = proof.points_have_rows
