use Rattle.std.proofs.Common.{refl, ◌∙◌}
use Rattle.std.proofs.lemmas.Result.{IfOk-weaker}
use Rattle.flow_model.specs.Flow.{lanes, all_lanes}
use Rattle.taint_shadow.specs.Labels.{Makes}
use Rattle.taint_shadow.specs.Steps.{united_over, meaning_at, MakesOver}
use Rattle.taint_shadow.proofs.Meaning.{lanes_here, over_kept, standing_kept, unite_made, both_made}
use Rattle.taint_shadow.proofs.shapes.all_label.Goals as goal

pub register_label-requires-2-clause-standing : goal.register_label-requires-2-clause-standing
register_label-requires-2-clause-standing g c = standing_kept g.A.Labels.words _ _ c.args.places.now c.in_ok-one.ensures.keeps c.requires.standing

pub unite-requires-clause-left : goal.unite-requires-clause-left
unite-requires-clause-left g c = (c.in_ok-other.ensures.keeps _ c.in_ok-one.ensures.made.stands).stands

pub unite-requires-clause-right : goal.unite-requires-clause-right
unite-requires-clause-right g c = c.in_ok-other.ensures.made.stands

pub returns : goal.returns
returns g c =
    let words = g.A.Labels.words in
    let laws = g.met.A.Labels.laws in
    let a = c.args.labels.now in
    let p = c.args.places.now in
    let r = c.args.rs1 in
    let s = c.args.rs2 in
    let one = c.in_ok-one.ensures in
    let right = c.in_ok-other.ensures in
    let same = over_kept words a _ p one.keeps c.requires.standing (lanes s) (lanes_here s c.requires.registers.1) in
    let other : Makes words _ (united_over words (meaning_at words a p) (lanes s)) _ _ = record { made = record { stands = right.made.stands; means = right.made.means ∙ same }; keeps = right.keeps } in
    IfOk-weaker _ _ (MakesOver words a p (all_lanes r s 0) c.unite.new.labels) (λ label made.
    let both = unite_made words _ _ _ _ _ _ label _ _ one other made in
    record {
      made = both_made words laws a p c.requires.standing _ (lanes r) (lanes s) _ _ label (lanes_here r c.requires.registers.0) (lanes_here s c.requires.registers.1) refl refl both.made;
      keeps = both.keeps;
    }) c.unite.ensures
