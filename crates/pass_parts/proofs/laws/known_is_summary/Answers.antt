use Rattle.pass_parts.proofs.Known.{known_is_summary}
use Rattle.pass_parts.proofs.laws.known_is_summary.Goals as goal

pub returns : goal.returns
returns c = known_is_summary
