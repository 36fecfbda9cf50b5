use Rattle.std.proofs.Common.{subst}
use Rattle.taint_shadow.specs.declared.lanes.Lanes.{Lanes}
use Rattle.taint_shadow.specs.Places.{kept, AreKept, with_lanes}
use Rattle.taint_shadow.proofs.Meaning.{lanes_are}
use Rattle.taint_shadow.proofs.places.Places.copy_lanes.Goals as goal

pub returns-in-None : goal.returns-in-None
returns-in-None c =
    let p = c.args.self.now in
    subst (λ (x : Lanes). AreKept c.set_lanes.new.self (with_lanes c.args.number x (kept p))) (lanes_are c.lanes-lanes.result p c.args.from c.lanes-lanes.ensures) c.set_lanes.ensures
