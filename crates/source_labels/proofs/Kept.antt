-- Labels as terms: what a growing log keeps, and the labels of nodes.
use Rattle.std.proofs.Common.{◌≡◌, ◌<◌, ◌^◌, ℕ, refl, ap, ap₂, sym, subst, ◌∙◌, arith}
use Rattle.merge_log.specs.Log.{IsNode, KeepsNodes, joined, terms}
use Rattle.merge_log.proofs.Keeping.{keeps_then}
use Rattle.taint_shadow.specs.declared.labels.Label.{Label}
use Rattle.taint_shadow.specs.declared.labels.LabelKind.{LabelKind}
use Rattle.taint_shadow.specs.declared.labels.LabelKind.TheVariants.{Node, Start, Run}
use Rattle.taint_shadow.specs.Labels.{MakesLabel, KeepsLabels, Makes, mean_together, kind_of, node_label}
use Rattle.taint_shadow.proofs.Numbers.{node_kind}
use Rattle.source_labels.specs.declared.nodes.Nodes.{Nodes}
use Rattle.source_labels.specs.Words.{node_words, node_or_nothing, log_of, terms_by}

-- where the log keeps its nodes, labels are kept
pub keeps_labels : (old new : Nodes) → KeepsNodes (log_of old) (log_of new) → KeepsLabels node_words old new
keeps_labels old new k label h = let now = by (kind_of label) h in record { stands = now.0; means = now.1 }
  where
    by : (o : LabelKind) → IsNode (log_of old) (node_or_nothing o) → IsNode (log_of new) (node_or_nothing o) × (terms_by (log_of new) o ≡ terms_by (log_of old) o)
    by (Node n) h = (k.nodes n h, k.terms n h)
    by (Start l) h = (omega arith, refl)
    by (Run r) h = (omega arith, refl)

-- the label of a node
pub node_made : (nodes : Nodes) (n : ℕ) (label : Label) → n < 2 ^ 32 → label ≡ node_label n → IsNode (log_of nodes) n → MakesLabel node_words nodes (terms (log_of nodes) n) label
node_made nodes n label small is here =
    let kind : kind_of label ≡ Node n = ap kind_of is ∙ node_kind n small in
    record {
      stands = subst (λ (o : LabelKind). IsNode (log_of nodes) (node_or_nothing o)) (sym kind) here;
      means = ap (terms_by (log_of nodes)) kind;
    }

-- where the node of the left label is made, and then that of the right one, and then their union
pub of_both : (a b c d : Nodes) (left right : Label) (l r n : ℕ) (label : Label) → node_words.stands a right → IsNode (log_of b) l
    → terms (log_of b) l ≡ node_words.means a left → KeepsNodes (log_of a) (log_of b)
    → terms (log_of c) r ≡ node_words.means b right → KeepsNodes (log_of b) (log_of c)
    → terms (log_of d) n ≡ joined (terms (log_of c) l) (terms (log_of c) r) → KeepsNodes (log_of c) (log_of d) → MakesLabel node_words d (terms (log_of d) n) label
    → Makes node_words a (mean_together node_words a left right) d label
of_both a b c d left right l r n label stands node is_left first is_right second is third made = record {
  made = record {
    stands = made.stands;
    means = made.means ∙ is ∙ ap₂ joined (second.terms l node ∙ is_left) (is_right ∙ (keeps_labels a b first right stands).means);
  };
  keeps = keeps_labels a d (keeps_then (log_of a) (log_of c) (log_of d) (keeps_then (log_of a) (log_of b) (log_of c) first second) third);
}
