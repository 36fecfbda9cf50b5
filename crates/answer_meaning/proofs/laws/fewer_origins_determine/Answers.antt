use Rattle.answer_meaning.proofs.Table.{fewer_determine}
use Rattle.answer_meaning.proofs.laws.fewer_origins_determine.Goals as goal

pub returns : goal.returns
returns c = fewer_determine
