-- What a walk over the nodes under a node finds, and the marks that it leaves.
use Rattle.std.specs.Prelude.{ℕ, ◌≤◌, ◌==◌, Bool, if◌then◌else◌, List, [], ◌∷◌, ◌++◌, slice_index, map}
use Rattle.lists.specs.Sets.{has}
use Rattle.flow_model.specs.Orders.{loc_cmp, source_cmp}
use Rattle.merge_log.specs.declared.reader.Leaf.{Leaf}
use Rattle.merge_log.specs.declared.reader.Leaf.TheVariants.{Source, Start}
use Rattle.merge_log.specs.declared.finding.FoundLeaves.{FoundLeaves}
use Rattle.source_runs.specs.Runs.{all_bytes}
use Rattle.merge_log.specs.Log.{Terms}

-- the leaf is one of the terms
abbrev pub has_leaf : Leaf → Terms → Bool
has_leaf (Source b) t = has source_cmp b t.sources
has_leaf (Start l) t = has loc_cmp l t.starts

-- the terms as leaves: the source bytes, and then the start locations
abbrev pub leaves_of : Terms → List Leaf
leaves_of t = map Source t.sources ++ map Start t.starts

-- what was found, as terms: the bytes of the runs, one run after another
abbrev pub terms_of : FoundLeaves → Terms
terms_of found = record { sources = all_bytes found.runs.items; starts = found.starts.items }

-- no mark is of a later round
abbrev pub AreAtMost : ℕ → List ℕ → Type 0
AreAtMost round marks = (m : ℕ) → slice_index marks m ≤ round

-- the stack with a node on top, or as it is where the node bears the mark of the round
abbrev pub visited : List ℕ → ℕ → ℕ → List ℕ → List ℕ
visited marks round node stack = if slice_index marks node == round then stack else stack ++ node ∷ []
