use Rattle.report_model.proofs.Located.{points_of_texts, points_together}
use Rattle.report_model.proofs.laws.points_are_located.Goals as goal

pub returns : goal.returns
returns c = record { texts = points_of_texts; together = points_together }
