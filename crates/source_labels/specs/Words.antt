-- Labels as terms, and as sets of source bytes.
use Rattle.std.specs.Prelude.{◌≡◌, ◌<◌, ℕ, Bool, true, false, nat_lt, List, [], ◌∷◌, length, All}
use Rattle.lists.specs.Sets.{union, Ascends}
use Rattle.flow_model.specs.declared.SourceByte.{SourceByte}
use Rattle.flow_model.specs.Orders.{source_cmp}
use Rattle.merge_log.specs.declared.nodes.Entry.{Entry}
use Rattle.merge_log.specs.Log.{Terms, AreSets, IsNode, no_terms, source_term, run_term, start_term, joined, terms}
use Rattle.taint_shadow.specs.declared.labels.Label.{Label}
use Rattle.taint_shadow.specs.declared.labels.LabelKind.{LabelKind}
use Rattle.taint_shadow.specs.declared.labels.LabelKind.TheVariants.{Node, Start, Run}
use Rattle.taint_shadow.specs.declared.labels.SinkLabel.{SinkLabel}
use Rattle.taint_shadow.specs.Labels.{LabelWords, kind_of}
use Rattle.source_labels.specs.declared.labels.SourceLabels.{SourceLabels}
use Rattle.source_labels.specs.declared.nodes.Nodes.{Nodes}

-- ---- labels as terms

-- the log whose nodes are labels
abbrev pub log_of : Nodes → List Entry
log_of nodes = nodes.log

-- the node of a label: the empty one, where it has none
abbrev pub node_or_nothing : LabelKind → ℕ
node_or_nothing (Node n) = n
node_or_nothing (Start l) = 0
node_or_nothing (Run r) = 0

-- the leaves under a node, the location alone, or the bytes of the run
abbrev pub terms_by : List Entry → LabelKind → Terms
terms_by log (Node n) = terms log n
terms_by log (Start l) = start_term l
terms_by log (Run r) = run_term r

-- a label stands for its terms, and an untouched location for itself: what it had at the start
abbrev pub node_words : LabelWords Nodes Terms
node_words = record {
  stands = λ nodes label. IsNode (log_of nodes) (node_or_nothing (kind_of label));
  means = λ nodes label. terms_by (log_of nodes) (kind_of label);
  IsMeaning = AreSets;
  nothing = no_terms;
  source = source_term;
  untouched = start_term;
  united = joined;
}

-- the label of each of the sinks stands
abbrev pub HaveNodesIn : Nodes → List SinkLabel → Type 0
HaveNodesIn nodes sinks = All (λ k. node_words.stands nodes k.label) sinks

-- ---- labels as sets of source bytes

-- the same labels, as terms
abbrev pub nodes_of : SourceLabels → Nodes
nodes_of labels = labels.nodes

-- a label of this kind is to stand for source bytes: a run, or a node other than the empty one
abbrev pub has_bytes : LabelKind → Bool
has_bytes (Node n) = nat_lt 0 n
has_bytes (Start l) = false
has_bytes (Run r) = true

-- a label stands, and has a source byte where its kind is to have some
pub record IsSourceLabel (nodes : Nodes) (label : Label) : Type 0 where
  pub stands : node_words.stands nodes label
  pub some : has_bytes (kind_of label) ≡ true → 0 < length (node_words.means nodes label).sources

-- a label stands for the source bytes among its terms
abbrev pub label_words : LabelWords SourceLabels (List SourceByte)
label_words = record {
  stands = λ labels label. IsSourceLabel (nodes_of labels) label;
  means = λ labels label. (node_words.means (nodes_of labels) label).sources;
  IsMeaning = Ascends source_cmp;
  nothing = [];
  source = λ b. b ∷ [];
  untouched = λ l. [];
  united = union source_cmp;
}
