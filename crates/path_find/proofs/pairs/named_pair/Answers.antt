use Rattle.path_find.proofs.Told.{chosen_is_located}
use Rattle.path_find.proofs.pairs.named_pair.Goals as goal

pub returns-clause-located : goal.returns-clause-located
returns-clause-located c = chosen_is_located c.args.query.now c.points-points.ensures.located c.in_ok-sink.sink c.in_ok-sink.ensures.chosen
