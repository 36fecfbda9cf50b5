use Rattle.std.proofs.Common.{sym}
use Rattle.std.proofs.lemmas.Bool.{iff_false}
use Rattle.std.proofs.lemmas.Result.{IfOk-weaker}
use Rattle.taint_shadow.proofs.Alike.{same_label}
use Rattle.taint_shadow.proofs.Meaning.{equal_mean, makes_itself}
use Rattle.source_labels.specs.Words.{label_words}
use Rattle.source_labels.specs.Laws.{label_laws}
use Rattle.source_labels.proofs.Sources.{none_right, none_left, made_sources, some_union}
use Rattle.source_labels.proofs.labels.SourceLabelsLabels.unite.Goals as goal

pub returns-then-eq : goal.returns-then-eq
returns-then-eq c =
    makes_itself label_words c.args.self.now _ c.args.left
    (equal_mean label_words label_laws c.args.self.now c.args.left c.args.right c.requires.left (same_label c.args.left c.args.right (sym c.if-eq.ensures)))

pub returns-then-not-has_source : goal.returns-then-not-has_source
returns-then-not-has_source c =
    none_right c.args.self.now c.args.left c.args.right c.requires.left (iff_false c.has_source.ensures (let none = c.if-not-has_source in cc))

pub returns-then-not-has_source-2 : goal.returns-then-not-has_source-2
returns-then-not-has_source-2 c =
    none_left c.args.self.now c.args.left c.args.right c.requires.right (iff_false c.has_source-2.ensures (let none = c.if-not-has_source-2 in cc))

pub returns : goal.returns
returns c =
    IfOk-weaker c.unite_two.result _ _
    (λ label made. made_sources c.args.self.now (record { nodes = c.unite_two.new.self }) _ label (some_union _ _ (c.has_source-2.ensures.0 (let some = c.if-not-has_source-2 in cc))) made)
    c.unite_two.ensures
