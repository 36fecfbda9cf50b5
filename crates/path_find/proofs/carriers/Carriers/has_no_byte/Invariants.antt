use Rattle.std.proofs.Common.{◌<◌, ◌+◌, ℕ}
use Rattle.isa.specs.Machine.{wrap}
use Rattle.flow_model.specs.declared.Loc.TheVariants.{Mem}
use Rattle.path_find.specs.Carriers.{HasNothing}
use Rattle.path_find.proofs.carriers.Carriers.has_no_byte.Given as goal

abbrev pub invariant-loop-i : goal.invariant-loop-i
invariant-loop-i l = (j : ℕ) → j < l.i → HasNothing l.self (Mem (wrap (l.place + j)))
