use Rattle.std.proofs.Common.{refl}
use Rattle.taint_shadow.proofs.Clean.{turns_nothing}
use Rattle.taint_tracking.proofs.tracking.Tracking.passes_by.Goals as goal

pub returns : goal.returns
returns g c = λ clean sound instr fits is none.
    let t = c.args.self.now in
    record {
      labels = turns_nothing t.places g.L.Labels.words g.met.L.Labels.laws t.labels sound.locations _ (c.is_clean_of.ensures clean) t.query.now.rule instr 0 fits is none;
      rest = refl;
    }
