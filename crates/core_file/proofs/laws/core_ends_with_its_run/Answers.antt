use Rattle.core_file.proofs.Ends.{ends_with_run}
use Rattle.core_file.proofs.laws.core_ends_with_its_run.Goals as goal

pub returns : goal.returns
returns c = ends_with_run
