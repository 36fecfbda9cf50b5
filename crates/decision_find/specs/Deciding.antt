-- What decides, as a list.
use Rattle.std.specs.Prelude.{List}
use Rattle.flow_model.specs.declared.Loc.{Loc}
use Rattle.flow_rule.specs.Locations.{locs_of}
use Rattle.decision_find.specs.declared.deciding.DecidingLocations.{DecidingLocations}
use Rattle.decision_find.specs.declared.deciding.DecidingLocations.TheVariants.{Few, Number, Code, Arguments}

abbrev pub deciding_locs : DecidingLocations → List Loc
deciding_locs (Few locs) = locs_of locs
deciding_locs (Number locs) = locs
deciding_locs (Code locs) = locs
deciding_locs (Arguments locs) = locs
