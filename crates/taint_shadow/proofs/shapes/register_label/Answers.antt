use Rattle.std.proofs.Common.{◌∙◌}
use Rattle.std.proofs.lemmas.Result.{IfOk-weaker}
use Rattle.flow_model.specs.Flow.{lanes}
use Rattle.taint_shadow.specs.Steps.{MakesOver}
use Rattle.taint_shadow.proofs.Meaning.{lanes_mean, lanes_stand, makes_itself, register_made}
use Rattle.taint_shadow.proofs.shapes.register_label.Goals as goal

pub returns-in-Some : goal.returns-in-Some
returns-in-Some g c =
    let words = g.A.Labels.words in
    makes_itself words c.args.labels.now _ c.in-Some.label (register_made words g.met.A.Labels.laws _ _ c.requires.standing c.args.number c.in-Some.label c.requires.register c.in-Some.ensures)

pub unite_all-requires : goal.unite_all-requires
unite_all-requires g c = lanes_stand g.A.Labels.words g.met.A.Labels.laws _ _ c.requires.standing c.args.number _ c.requires.register c.lanes.ensures

pub returns-in-None : goal.returns-in-None
returns-in-None g c =
    let words = g.A.Labels.words in
    let p = c.args.places.now in
    let r = c.args.number in
    IfOk-weaker _ _ (MakesOver words c.args.labels.now p (lanes r) c.unite_all.new.labels) (λ label made. record {
      made = record { stands = made.made.stands; means = made.made.means ∙ lanes_mean words g.met.A.Labels.laws _ p c.requires.standing r c.lanes.result c.requires.register c.lanes.ensures };
      keeps = made.keeps;
    }) c.unite_all.ensures
