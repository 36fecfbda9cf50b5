use Rattle.stream_model.proofs.Counting.{resolvable_by_count, places_stay}
use Rattle.stream_model.proofs.laws.resolvable_by_count.Goals as goal

pub returns : goal.returns
returns c = record { count = resolvable_by_count; places = places_stay }
