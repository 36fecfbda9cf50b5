use Rattle.std.proofs.Common.{refl, sym}
use Rattle.taint_shadow.proofs.Alike.{same_label}
use Rattle.taint_shadow.proofs.Meaning.{equal_mean, nothing_left, nothing_right, makes_itself}
use Rattle.source_labels.specs.Words.{node_words}
use Rattle.source_labels.specs.Laws.{node_laws}
use Rattle.source_labels.proofs.nodes.NodesLabels.unite.Goals as goal

pub returns-then-eq : goal.returns-then-eq
returns-then-eq c =
    makes_itself node_words c.args.self.now _ c.args.left
    (equal_mean node_words node_laws c.args.self.now c.args.left c.args.right c.requires.left (same_label c.args.left c.args.right (sym c.if-eq.ensures)))

pub returns-then-is_nothing : goal.returns-then-is_nothing
returns-then-is_nothing c =
    makes_itself node_words c.args.self.now _ c.args.left (nothing_right node_words node_laws c.args.self.now c.args.left c.args.right c.requires.left (c.if-is_nothing.ensures refl))

pub returns-then-is_nothing-2 : goal.returns-then-is_nothing-2
returns-then-is_nothing-2 c =
    makes_itself node_words c.args.self.now _ c.args.right (nothing_left node_words node_laws c.args.self.now c.args.left c.args.right c.requires.right (c.if-is_nothing-2.ensures refl))
