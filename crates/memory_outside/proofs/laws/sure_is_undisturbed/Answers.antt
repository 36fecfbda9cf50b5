use Rattle.std.proofs.Common.{ap, refl, arith, Some, None, is_some, if◌then◌else◌}
use Rattle.memory_outside.specs.Held.{sure_files_of}
use Rattle.memory_outside.proofs.laws.sure_is_undisturbed.Goals as goal

pub returns : goal.returns
returns c = λ heard heard_after before after. record {
  told = sure_files_of c.args.store.now.held;
  tells = ap (λ lost. if lost then None else Some (sure_files_of c.args.store.now.held)) before;
  still_tells = ap (λ lost. is_some (if lost then None else Some (sure_files_of c.args.store_after.now.held))) after;
  store_room = omega arith;
  store_faults = refl;
  output_room = omega arith;
  output_faults = refl;
}
