-- What of an epoch is needed.
use Rattle.std.specs.Prelude.{◌≡◌, ℕ, ◌+◌, ◌≤◌, ◌<◌, true, Bool, List, ◌++◌, length, map, slice_set, Some, All}
use Rattle.std.specs.List.{AllByRecursion}
use Rattle.lists.specs.Sets.{has}
use Rattle.flow_model.specs.declared.Loc.{Loc}
use Rattle.flow_model.specs.Orders.{loc_cmp}
use Rattle.epoch_model.specs.Crossing.{added}
use Rattle.merge_log.specs.declared.nodes.Entry.{Entry}
use Rattle.merge_log.specs.declared.nodes.Entry.TheVariants.{Start as StartEntry, Union}
use Rattle.merge_log.specs.Log.{terms, entry_at}
use Rattle.taint_shadow.specs.declared.labels.Label.{Label}
use Rattle.taint_shadow.specs.declared.labels.LabelKind.{LabelKind}
use Rattle.taint_shadow.specs.declared.labels.LabelKind.TheVariants.{Node, Start, Run}
use Rattle.taint_shadow.specs.Labels.{kind_of}
use Rattle.source_labels.specs.declared.nodes.Nodes.{Nodes}
use Rattle.source_labels.specs.Words.{node_words, log_of}
use Rattle.epoch_summary.specs.declared.summary.Summary.{Summary}
use Rattle.epoch_summary.specs.Summaries.{nodes_of, sinks_of}
use Rattle.summary_join.specs.Labels.{IsMarked}

-- ---- of an epoch

-- the labels of an epoch's sinks, and then some labels at its end
abbrev pub roots : Summary → List Label → List Label
roots e ends = map (λ k. k.label) (sinks_of e) ++ ends

-- the start locations of a label
abbrev pub starts_of : Nodes → Label → List Loc
starts_of nodes label = (node_words.means nodes label).starts

-- the operands of each marked union are marked
abbrev pub AreClosed : List Entry → List Bool → Type 0
AreClosed log marks =
    (n a b : ℕ) → IsMarked marks n → entry_at log n ≡ Some (Union a b) → IsMarked marks a × IsMarked marks b

-- where the label is a node it is marked
abbrev pub IsCovered : List Bool → Label → Type 0
IsCovered marks label = (n : ℕ) → kind_of label ≡ Node n → IsMarked marks n

-- the roots stand, and all nodes that they come from are marked
pub record AreNeeded (e : Summary) (ends : List Label) (marks : List Bool) : Type 0 where
  pub room : length marks ≡ length (log_of (nodes_of e)) + 1
  pub closed : AreClosed (log_of (nodes_of e)) marks
  pub stand : All (node_words.stands (nodes_of e)) (roots e ends)
  pub marked : All (IsCovered marks) (roots e ends)

-- ---- finding it

-- the marks with that of the label's node, and the list with the location that the label is of
abbrev pub marks_with : List Bool → LabelKind → List Bool
marks_with marks (Node n) = slice_set marks n true
marks_with marks (Start l) = marks
marks_with marks (Run r) = marks

abbrev pub asked_with : List Loc → LabelKind → List Loc
asked_with asked (Node n) = asked
asked_with asked (Start l) = added asked l
asked_with asked (Run r) = asked

-- what was marked and asked still is
pub record KeepsNeeds (old : List Bool) (asks : List Loc) (new : List Bool) (more : List Loc) : Type 0 where
  pub room : length new ≡ length old
  pub marked : (n : ℕ) → IsMarked old n → IsMarked new n
  pub asked : (l : Loc) → has loc_cmp l asks ≡ true → has loc_cmp l more ≡ true

-- each of the locations passes the test
abbrev pub AllPass : (Loc → Bool) → List Loc → Type 0
AllPass test ls = (l : Loc) → has loc_cmp l ls ≡ true → test l ≡ true

-- each location that is asked passes the test, and each start location under a marked node
pub record ArePassing (log : List Entry) (test : Loc → Bool) (marks : List Bool) (asks : List Loc) : Type 0 where
  pub asked : AllPass test asks
  pub marked : (n : ℕ) → IsMarked marks n → AllPass test (terms log n).starts

-- the label's node is marked, or the location that it is of is asked
abbrev pub IsNotedKind : List Bool → List Loc → LabelKind → Type 0
IsNotedKind marks asked (Node n) = IsMarked marks n
IsNotedKind marks asked (Start l) = has loc_cmp l asked ≡ true
IsNotedKind marks asked (Run r) = Unit {0}

-- some labels were noted, and nothing else
pub record AreNoted (nodes : Nodes) (ks : List Label)
    (old : List Bool) (asks : List Loc) (new : List Bool) (more : List Loc) : Type 0 where
  pub keeps : KeepsNeeds old asks new more
  pub noted : AllByRecursion (λ k. IsNotedKind new more (kind_of k)) ks
  pub passing : (test : Loc → Bool) → AllByRecursion (λ k. AllPass test (starts_of nodes k)) ks
      → ArePassing (log_of nodes) test old asks → ArePassing (log_of nodes) test new more

-- a node was looked at: where it is marked, its operands are, or its location is asked, and nothing else is new
pub record IsLookedAt (log : List Entry) (node : ℕ)
    (old : List Bool) (asks : List Loc) (new : List Bool) (more : List Loc) : Type 0 where
  pub keeps : KeepsNeeds old asks new more
  pub same : (n : ℕ) → node ≤ n → IsMarked new n → IsMarked old n
  pub operands : (a b : ℕ) → IsMarked old node → entry_at log node ≡ Some (Union a b) → IsMarked new a × IsMarked new b
  pub start : (l : Loc) → IsMarked old node → entry_at log node ≡ Some (StartEntry l) → has loc_cmp l more ≡ true
  pub passing : (test : Loc → Bool) → ArePassing log test old asks → ArePassing log test new more

-- the marked nodes above a place were looked at
pub record AreLookedAt (log : List Entry) (place : ℕ)
    (old : List Bool) (asks : List Loc) (new : List Bool) (more : List Loc) : Type 0 where
  pub keeps : KeepsNeeds old asks new more
  pub operands : (n a b : ℕ) → place < n → IsMarked new n → entry_at log n ≡ Some (Union a b)
      → IsMarked new a × IsMarked new b
  pub starts : (n : ℕ) (l : Loc) → place < n → IsMarked new n → entry_at log n ≡ Some (StartEntry l)
      → has loc_cmp l more ≡ true
  pub passing : (test : Loc → Bool) → ArePassing log test old asks → ArePassing log test new more
