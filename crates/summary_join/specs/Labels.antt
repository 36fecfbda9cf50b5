-- What the nodes and the locations of an epoch are labelled with, in one log of source bytes.
use Rattle.std.specs.Prelude.{◌≡◌, ℕ, ◌+◌, ◌<◌, true, false, Bool, if◌then◌else◌, nat_lt, All}
use Rattle.std.specs.Prelude.{List, [], ◌∷◌, length, get_or}
use Rattle.std.specs.Ordering.{is_eq}
use Rattle.flow_model.specs.declared.Loc.{Loc}
use Rattle.flow_model.specs.declared.SourceByte.{SourceByte}
use Rattle.flow_model.specs.Orders.{loc_cmp}
use Rattle.epoch_model.specs.Join.{resolved}
use Rattle.merge_log.specs.declared.nodes.Entry.{Entry}
use Rattle.merge_log.specs.Log.{terms}
use Rattle.taint_shadow.specs.declared.labels.Label.{Label}
use Rattle.taint_shadow.specs.declared.labels.LabelKind.{LabelKind}
use Rattle.taint_shadow.specs.declared.labels.LabelKind.TheVariants.{Node, Start, Run}
use Rattle.taint_shadow.specs.declared.labels.SinkLabel.{SinkLabel}
use Rattle.taint_shadow.specs.Labels.{KeepsLabels, kind_of, nothing_label}
use Rattle.source_labels.specs.declared.labels.SourceLabels.{SourceLabels}
use Rattle.source_labels.specs.Words.{label_words}
use Rattle.summary_join.specs.declared.cut.CutLabels.{CutLabels}

-- each of the labels stands
abbrev pub AllStand : SourceLabels → List Label → Type 0
AllStand labels ks = All (label_words.stands labels) ks

-- ---- at a cut

-- the label of a location among those that were asked, whose labels stand in the same order: that of nothing where it
-- has none
abbrev pub label_at : List Loc → List Label → Loc → Label
label_at [] ks l = nothing_label
label_at (m ∷ asked) [] l = nothing_label
label_at (m ∷ asked) (k ∷ ks) l = if is_eq (loc_cmp l m) then k else label_at asked ks l

-- what a location had at a cut: the source bytes of its label
abbrev pub had : SourceLabels → CutLabels → Loc → List SourceByte
had labels cut l = label_words.means labels (label_at cut.asked cut.labels.items l)

-- ---- nodes

-- the node is marked
abbrev pub IsMarked : List Bool → ℕ → Type 0
IsMarked marks n = get_or marks n false ≡ true

-- the label of each marked node of the table has the source bytes that the node's terms come to
abbrev pub AreMeant : SourceLabels → List Entry → (Loc → List SourceByte) → List Bool → List Label → Type 0
AreMeant labels log before marks table =
    (n : ℕ) → n < length table → IsMarked marks n
    → label_words.means labels (get_or table n nothing_label) ≡ resolved before (terms log n)

-- a node got a label after the nodes below it, whose labels are the table
pub record IsNodeLabel (old : SourceLabels) (log : List Entry) (cut : CutLabels) (marks : List Bool)
    (table : List Label) (node : ℕ) (new : SourceLabels) (label : Label) : Type 0 where
  pub keeps : KeepsLabels label_words old new
  pub stands : label_words.stands new label
  pub means : AreMeant old log (had old cut) marks table → IsMarked marks node
      → label_words.means new label ≡ resolved (had old cut) (terms log node)

-- each node of an epoch's log got a label
pub record AreNodeLabels (old : SourceLabels) (log : List Entry) (cut : CutLabels) (marks : List Bool)
    (new : SourceLabels) (table : List Label) : Type 0 where
  pub keeps : KeepsLabels label_words old new
  pub count : length table ≡ length log + 1
  pub stand : AllStand new table
  pub means : AreMeant new log (had old cut) marks table

-- ---- labels of an epoch's own, carried into the one log

-- that of a node is taken from the table, that of a location at the epoch's start from the cut, and a run of source
-- bytes stays as it is
abbrev pub carried_by : CutLabels → List Label → Label → LabelKind → Label
carried_by cut table label (Node n) = get_or table n nothing_label
carried_by cut table label (Start l) = label_at cut.asked cut.labels.items l
carried_by cut table label (Run r) = if nat_lt r.last r.first then nothing_label else label

abbrev pub carried : CutLabels → List Label → Label → Label
carried cut table label = carried_by cut table label (kind_of label)

-- a sink with its label
abbrev pub carried_sink : CutLabels → List Label → SinkLabel → SinkLabel
carried_sink cut table k = record { name = k.name; label = carried cut table k.label }
