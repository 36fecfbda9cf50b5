use Rattle.std.proofs.Common.{ap, ◌∙◌, subst}
use Rattle.taint_shadow.specs.declared.lanes.Lanes.{Lanes}
use Rattle.taint_shadow.specs.Lanes.{shuffled}
use Rattle.taint_shadow.specs.Places.{kept, AreKept, with_lanes}
use Rattle.taint_shadow.proofs.Meaning.{lanes_are}
use Rattle.taint_shadow.proofs.places.Places.shuffle_lanes.Goals as goal

pub returns : goal.returns
returns c =
    let p = c.args.self.now in
    subst (λ (x : Lanes). AreKept c.put_lanes.new.self (with_lanes c.args.number x (kept p)))
    (c.shuffled-lanes.ensures ∙ ap (λ (x : Lanes). shuffled x c.args.shuffle) (lanes_are c.lanes.result p c.args.from c.lanes.ensures)) c.put_lanes.ensures
