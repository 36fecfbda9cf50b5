use Rattle.taint_shadow.proofs.Notes.{unlabelled}
use Rattle.taint_shadow.proofs.places.Places.is_clean_of.Goals as goal

pub returns : goal.returns
returns c = λ none. record { lanes = λ r h has i low. unlabelled c.args.self.now r i c.args.self.now.noted h low (c.has_none_of.ensures none r has) }
