use Rattle.report_model.proofs.Own as proof
use Rattle.report_model.proofs.laws.together_covers.Goals as goal

pub returns : goal.returns
returns c = record { covers = proof.together_covers; points = proof.together_ascends }
