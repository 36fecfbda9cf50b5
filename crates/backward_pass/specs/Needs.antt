-- What nodes of a log need whose start locations are all asked, and walks that find such nodes.
use Rattle.std.specs.Prelude.{◌≡◌, ℕ, ◌+◌, ◌<◌, ◌⊎◌, true, nat_eq, List, [], ◌∷◌, ◌++◌, length, slice_index, Some}
use Rattle.std.specs.List.{list_any}
use Rattle.lists.specs.Sets.{has, is_within}
use Rattle.flow_model.specs.declared.Loc.{Loc}
use Rattle.flow_model.specs.Orders.{loc_cmp}
use Rattle.stream_model.specs.Streams.{places_needed}
use Rattle.merge_log.specs.declared.nodes.Entry.{Entry}
use Rattle.merge_log.specs.declared.nodes.Entry.TheVariants.{Start}
use Rattle.merge_log.specs.Log.{HasOperand, IsNode, entry_at, terms}
use Rattle.epoch_summary.specs.Summaries.{nodes_of}
use Rattle.source_labels.specs.Words.{log_of}
use Rattle.std.specs.Option.{ForSome}
use Rattle.pass_parts.specs.declared.pass_summary.PassSummary.{PassSummary}
use Rattle.pass_parts.specs.PassSummaries.{read_summary}
use Rattle.backward_pass.specs.declared.node_needs.NodeNeeds.{NodeNeeds}

-- ---- what is noted

-- these start locations are all asked, and the number is one more than that of the asked ones up to the last of them
pub record IsNeed (asked starts : List Loc) (need : ℕ) : Type 0 where
  pub within : is_within loc_cmp starts asked ≡ true
  pub count : need ≡ places_needed asked starts + 1

-- the number that is noted for the node is its need
abbrev pub HasNeed : List Entry → List Loc → List ℕ → ℕ → Type 0
HasNeed log asked needs n = IsNeed asked (terms log n).starts (slice_index needs n)

-- so it is for each node for which one is noted
abbrev pub AreNeeds : List Entry → List Loc → List ℕ → Type 0
AreNeeds log asked needs = (n : ℕ) → 0 < slice_index needs n → HasNeed log asked needs n

-- what is noted is of this log
abbrev pub AreOfLog : List Entry → List Loc → NodeNeeds → Type 0
AreOfLog log asked noted = AreNeeds log asked noted.needs.items

-- and of the summary that the pass still reads
abbrev pub AreOfEpoch : PassSummary → List Loc → NodeNeeds → Type 0
AreOfEpoch epoch asked noted = ForSome (read_summary epoch) (λ e. AreOfLog (log_of (nodes_of e)) asked noted)

-- ---- walks

-- the node is one of these
abbrev pub IsAmong : List ℕ → ℕ → Type 0
IsAmong ns n = list_any (nat_eq n) ns ≡ true

-- a number is noted for the node, or it is one of these
abbrev pub IsKnown : List ℕ → List ℕ → ℕ → Type 0
IsKnown needs ns n = (0 < slice_index needs n) ⊎ IsAmong ns n

-- when the turn of each node comes its operands are known, or among those before it
abbrev pub AreInOrder : List Entry → (ℕ → Type 0) → List ℕ → List ℕ → Type 0
AreInOrder log are_known before [] = Unit {0}
AreInOrder log are_known before (n ∷ ns) =
    ((o : ℕ) → HasOperand log n o → are_known o ⊎ IsAmong before o) × AreInOrder log are_known (before ++ n ∷ []) ns

-- the node stands in the log, and its start locations are among those of the root
pub record IsUnder (log : List Entry) (root n : ℕ) : Type 0 where
  pub above_0 : 0 < n
  pub stands : IsNode log n
  pub starts : (l : Loc) → has loc_cmp l (terms log n).starts ≡ true → has loc_cmp l (terms log root).starts ≡ true

-- the list has the start location, if the node is that of one
abbrev pub HasStart : List Entry → List Loc → ℕ → Type 0
HasStart log starts n = (l : Loc) → entry_at log n ≡ Some (Start l) → has loc_cmp l starts ≡ true

-- nodes under a root are noted now, in an order, and no others, with their start locations
pub record AreWalked (log : List Entry) (root : ℕ) (old needs order : List ℕ) (starts : List Loc) : Type 0 where
  pub room : length needs ≡ length old
  pub kept : (n : ℕ) → 0 < slice_index old n → slice_index needs n ≡ slice_index old n
  pub only : (n : ℕ) → 0 < slice_index needs n → IsKnown old order n
  pub nodes : (n : ℕ) → IsAmong order n → IsUnder log root n
  pub ordered : AreInOrder log (λ o. 0 < slice_index old o) [] order
  pub found : (n : ℕ) → IsAmong order n → HasStart log starts n
  pub within : (l : Loc) → has loc_cmp l starts ≡ true → has loc_cmp l (terms log root).starts ≡ true

-- some nodes have got their needs, and all others have theirs still
pub record AreCountedNow (log : List Entry) (asked : List Loc) (order old needs : List ℕ) : Type 0 where
  pub room : length needs ≡ length old
  pub known : (n : ℕ) → HasNeed log asked old n ⊎ IsAmong order n → HasNeed log asked needs n
  pub only : (n : ℕ) → 0 < slice_index needs n → IsKnown old order n
