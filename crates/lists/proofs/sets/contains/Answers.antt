use Rattle.std.proofs.Common.{◌∙◌}
use Rattle.lists.proofs.Places.{searched}
use Rattle.lists.proofs.sets.contains.Goals as goal

pub returns : goal.returns
returns g c = c.is_ok.ensures.value ∙ searched g.met.T.Ord.total c.args.set.now c.args.x.now c.requires c.binary_search.result c.binary_search.ensures.bound c.binary_search.ensures.position
