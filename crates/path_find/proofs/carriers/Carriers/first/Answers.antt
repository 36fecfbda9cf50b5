use Rattle.std.proofs.Common.{arith}
use Rattle.path_find.proofs.carriers.Carriers.first.Goals as goal
use Rattle.flow_model.proofs.Located.{located-get_or}

pub get-label-requires : goal.get-label-requires
get-label-requires c = located-get_or c.args.locs.now c.loop-loc.loc-index _ c.requires (omega (arith, c.loop-loc-test.true))
