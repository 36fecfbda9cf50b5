use Rattle.std.proofs.Common.{◌∙◌, ap, get_or, sym}
use Rattle.taint_shadow.specs.Labels.{nothing_label}
use Rattle.summary_join.proofs.Places.{label_none, label_placed}
use Rattle.summary_join.proofs.cut.CutLabels.label.Goals as goal

pub returns-in-Some : goal.returns-in-Some
returns-in-Some c =
    let cut = c.args.self.now in
    c.label_or_nothing.ensures
    ∙ ap (λ ks. get_or ks c.in-Some.place nothing_label) c.deref.ensures.value
    ∙ sym (label_placed cut.asked cut.labels.items c.in-Some.place c.args.loc c.form.ensures c.in-Some.ensures.place)

pub returns-in-None : goal.returns-in-None
returns-in-None c = c.nothing.ensures ∙ sym (label_none c.args.self.now.asked c.args.self.now.labels.items c.args.loc (sym c.in-None.ensures.asked))
