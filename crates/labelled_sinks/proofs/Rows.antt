-- The rows of sinks that have labels in the one log.
use Rattle.std.proofs.Common.{◌≡◌, List, [], ◌∷◌, map, refl, ap, ap₂, ◌∙◌}
use Rattle.lists.specs.Sets.{union}
use Rattle.lists.proofs.Algebra.{union-nil}
use Rattle.flow_model.specs.declared.Loc.{Loc}
use Rattle.flow_model.specs.declared.SourceByte.{SourceByte}
use Rattle.flow_model.specs.Orders.{source_cmp}
use Rattle.flow_model.specs.Origins.{union_over}
use Rattle.flow_model.proofs.Orders.{source_total}
use Rattle.report_model.specs.Rows.{Row}
use Rattle.epoch_model.specs.Join.{answer_to, resolved_row}
use Rattle.taint_shadow.specs.Labels.{kind_of}
use Rattle.taint_shadow.specs.declared.labels.SinkLabel.{SinkLabel}
use Rattle.source_labels.specs.declared.labels.SourceLabels.{SourceLabels}
use Rattle.source_labels.specs.declared.nodes.Nodes.{Nodes}
use Rattle.source_labels.specs.Laws.{terms_ascend}
use Rattle.source_labels.specs.Words.{label_words, log_of, node_words, nodes_of}
use Rattle.epoch_summary.specs.Summaries.{named}
use Rattle.labelled_sinks.specs.Rows.{row_by}

-- where nothing was asked, start locations add no source byte
nothing_over : (ls : List Loc) → union_over (answer_to [] []) ls ≡ []
nothing_over [] = refl
nothing_over (l ∷ []) = refl
nothing_over (l ∷ m ∷ ls) = nothing_over (m ∷ ls)

row_alone : (labels : SourceLabels) (k : SinkLabel) → resolved_row (answer_to [] []) (named (nodes_of labels) k) ≡ row_by labels k
row_alone labels k =
    let terms = node_words.means (nodes_of labels) k.label in
    ap (λ (bs : List SourceByte). record { sink = k.name; sources = bs })
    (ap (union source_cmp terms.sources) (nothing_over terms.starts) ∙ union-nil source_total terms.sources (terms_ascend (log_of (nodes_of labels)) (kind_of k.label)).sources)

rows_alone : (labels : SourceLabels) (sinks : List SinkLabel) → map (resolved_row (answer_to [] [])) (map (named (nodes_of labels)) sinks) ≡ map (row_by labels) sinks
rows_alone labels [] = refl
rows_alone labels (k ∷ ks) = ap₂ (λ (r : Row) (rs : List Row). r ∷ rs) (row_alone labels k) (rows_alone labels ks)

-- with nothing asked, and no answers
pub rows_are : (labels : SourceLabels) (sinks own : List SinkLabel) (nodes : Nodes) (asked : List Loc) (answers : List (List SourceByte))
    → nodes ≡ nodes_of labels → own ≡ sinks → asked ≡ [] → answers ≡ []
    → map (resolved_row (answer_to asked answers)) (map (named nodes) own) ≡ map (row_by labels) sinks
rows_are labels sinks own nodes asked answers is_nodes is_own none no_answers =
    ap₂ (λ (ls : List Loc) (sets : List (List SourceByte)). map (resolved_row (answer_to ls sets)) (map (named nodes) own)) none no_answers
    ∙ ap₂ (λ (n : Nodes) (ks : List SinkLabel). map (resolved_row (answer_to [] [])) (map (named n) ks)) is_nodes is_own
    ∙ rows_alone labels sinks
