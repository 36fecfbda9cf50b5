-- What labels mean is united as sets are.
use Rattle.std.specs.Prelude.{List, [], length}
use Rattle.std.proofs.Common.{ap, sym, subst, ◌∙◌}
use Rattle.std.proofs.lemmas.Bool.{false≢true}
use Rattle.flow_model.specs.declared.Loc.{Loc}
use Rattle.flow_model.specs.declared.SourceByte.{SourceByte}
use Rattle.flow_model.specs.Orders.{source_cmp}
use Rattle.flow_model.specs.Ranges.{IsLocation}
use Rattle.lists.specs.Sets.{Ascends}
use Rattle.merge_log.specs.declared.nodes.Entry.{Entry}
use Rattle.merge_log.specs.Log.{Terms, AreSets, IsNode, start_term}
use Rattle.merge_log.proofs.Terms.{ascend-terms, ascend-run, ascend-joined, nothing_under_0, joined_assoc, joined_comm, joined_itself, joined_nothing}
use Rattle.taint_shadow.specs.declared.labels.LabelKind.{LabelKind}
use Rattle.taint_shadow.specs.declared.labels.LabelKind.TheVariants.{Node, Start, Run}
use Rattle.taint_shadow.specs.Labels.{MakesLabel, Laws, kind_of, start_label}
use Rattle.taint_shadow.proofs.Numbers.{start_kind, first_number}
use Rattle.source_labels.specs.declared.labels.SourceLabels.{SourceLabels}
use Rattle.source_labels.specs.declared.nodes.Nodes.{Nodes}
use Rattle.source_labels.specs.Words.{label_words, node_words, log_of, nodes_of, terms_by, node_or_nothing, has_bytes}

pub terms_ascend : (log : List Entry) (k : LabelKind) → AreSets (terms_by log k)
terms_ascend log (Node n) = ascend-terms log n
terms_ascend log (Start l) = record { sources = tt; starts = (tt, tt) }
terms_ascend log (Run r) = ascend-run r

started : (nodes : Nodes) (l : Loc) → IsLocation l → MakesLabel node_words nodes (start_term l) (start_label l)
started nodes l here = record {
  stands = subst (λ (k : LabelKind). IsNode (log_of nodes) (node_or_nothing k)) (sym (start_kind l here)) (first_number (length (log_of nodes)));
  means = ap (terms_by (log_of nodes)) (start_kind l here);
}

pub node_laws : Laws node_words
node_laws = record {
  of_none = record { sources = tt; starts = tt };
  of_nothing = λ nodes. record { stands = first_number (length (log_of nodes)); means = nothing_under_0 (log_of nodes) };
  of_start = started;
  of_label = λ nodes label stands. terms_ascend (log_of nodes) (kind_of label);
  of_both = λ m n h k. ascend-joined m n k;
  with_nothing = joined_nothing;
  with_itself = joined_itself;
  swapped = joined_comm;
  grouped = λ m n o h k j. joined_assoc m n o k j;
}

abbrev sources_in : Terms → List SourceByte
sources_in t = t.sources

none_started : (labels : SourceLabels) (l : Loc) → IsLocation l → MakesLabel label_words labels [] (start_label l)
none_started labels l here =
    let made = node_laws.of_start (nodes_of labels) l here in
    record {
      stands = record { stands = made.stands; some = λ h. absurd (false≢true (sym (ap has_bytes (start_kind l here)) ∙ h)) };
      means = ap sources_in made.means;
    }

-- source bytes as terms
abbrev alone : List SourceByte → Terms
alone m = record { sources = m; starts = [] }

ascend_alone : (m : List SourceByte) → Ascends source_cmp m → AreSets (alone m)
ascend_alone m h = record { sources = h; starts = tt }

pub label_laws : Laws label_words
label_laws = record {
  of_none = tt;
  of_nothing = λ labels.
      let none = node_laws.of_nothing (nodes_of labels) in
      record { stands = record { stands = none.stands; some = λ h. absurd (false≢true h) }; means = ap sources_in none.means };
  of_start = none_started;
  of_label = λ labels label stands. (node_laws.of_label (nodes_of labels) label stands.stands).sources;
  of_both = λ m n h k. (node_laws.of_both (alone m) (alone n) (ascend_alone m h) (ascend_alone n k)).sources;
  with_nothing = λ m h. ap sources_in (node_laws.with_nothing (alone m) (ascend_alone m h));
  with_itself = λ m h. ap sources_in (node_laws.with_itself (alone m) (ascend_alone m h));
  swapped = λ m n h k. ap sources_in (node_laws.swapped (alone m) (alone n) (ascend_alone m h) (ascend_alone n k));
  grouped = λ m n o h k j. ap sources_in (node_laws.grouped (alone m) (alone n) (alone o) (ascend_alone m h) (ascend_alone n k) (ascend_alone o j));
}
