use Rattle.std.proofs.Common.{◌≡◌, drop}
use Rattle.path_find.specs.Carriers.{kept, first_label}
use Rattle.path_find.proofs.carriers.Carriers.first.Given as goal

abbrev pub invariant-loop-loc : goal.invariant-loop-loc
invariant-loop-loc l = first_label (kept l.self) (drop l.loc-index l.locs) ≡ first_label (kept l.self) l.locs
