-- The nodes of a merge log, as the list of their entries in the order of making, and the leaves under each of them.
-- Node 0 is the empty one and has no entry; the entry of index k is node k + 1.
use Rattle.std.specs.Prelude.{◌≡◌, ℕ, zero, suc, ◌<◌, ◌≤◌, ◌^◌, ◌==◌, if◌then◌else◌, List, [], ◌∷◌, ◌++◌, length, Option, Some, None, slice_get, nat_lt, Contains, ◌⊎◌}
use Rattle.lists.specs.Sets.{union, Ascends}
use Rattle.flow_model.specs.declared.Loc.{Loc}
use Rattle.flow_model.specs.declared.SourceByte.{SourceByte}
use Rattle.flow_model.specs.Orders.{loc_cmp, source_cmp}
pub use Rattle.epoch_model.specs.Summary.{Terms}
use Rattle.merge_log.specs.declared.nodes.Entry.{Entry}
use Rattle.merge_log.specs.declared.nodes.Entry.TheVariants.{Source, Run, Start, Union}
use Rattle.source_runs.specs.declared.runs.SourceRun.{SourceRun}
use Rattle.source_runs.specs.Runs.{bytes_of}

-- ---- the leaves under a node

-- both ascend, and so have no repeats
pub record AreSets (t : Terms) : Type 0 where
  pub sources : Ascends source_cmp t.sources
  pub starts : Ascends loc_cmp t.starts

-- no source byte and no start location
abbrev pub no_terms : Terms
no_terms = record { sources = []; starts = [] }

-- one source byte
abbrev pub source_term : SourceByte → Terms
source_term b = record { sources = b ∷ []; starts = [] }

-- the source bytes of a run
abbrev pub run_term : SourceRun → Terms
run_term r = record { sources = bytes_of r; starts = [] }

-- the entry of a run
abbrev pub run_entry : SourceRun → Entry
run_entry r = Run r.channel r.first r.last

-- one start location
abbrev pub start_term : Loc → Terms
start_term l = record { sources = []; starts = l ∷ [] }

-- the source bytes of both, and the start locations of both
abbrev pub joined : Terms → Terms → Terms
joined a b = record { sources = union source_cmp a.sources b.sources; starts = union loc_cmp a.starts b.starts }

-- the terms of a new node: those of its leaf, or those of both operands, by the terms of the nodes before it
abbrev pub entry_terms : (ℕ → Terms) → Entry → Terms
entry_terms before (Source b) = source_term b
entry_terms before (Run c a b) = run_term (record { channel = c; first = a; last = b })
entry_terms before (Start l) = start_term l
entry_terms before (Union a b) = joined (before a) (before b)

-- the terms of each node i: of the new node n by its entry, of any other as before
abbrev pub with_node : (ℕ → Terms) → ℕ → Entry → ℕ → Terms
with_node before n e i = if i == n then entry_terms before e else before i

-- the terms of each node i, after the entries have been made in turn as the nodes n, n + 1 and so on
abbrev pub terms_from : (ℕ → Terms) → ℕ → List Entry → ℕ → Terms
terms_from before n [] i = before i
terms_from before n (e ∷ es) i = terms_from (with_node before n e) (suc n) es i

-- the leaves under the node i of a log: at first no node has any, and then its entries are made as the nodes from 1 on
abbrev pub terms : List Entry → ℕ → Terms
terms log i = terms_from (λ i. no_terms) 1 log i

-- ---- logs

-- the node stands in the log
abbrev pub IsNode : List Entry → ℕ → Type 0
IsNode log n = n ≤ length log

-- the entry may be that of the node n: the operands of a union are nodes above 0 and below n, the smaller one first
abbrev pub HasOperandsBefore : ℕ → Entry → Type 0
HasOperandsBefore n (Source b) = Unit {0}
HasOperandsBefore n (Run c a b) = Unit {0}
HasOperandsBefore n (Start l) = Unit {0}
HasOperandsBefore n (Union a b) = (0 < a) × (a < b) × (b < n)

-- the operands of each entry stand before it, where the entries are the nodes n, n + 1 and so on
abbrev pub AreOrdered : ℕ → List Entry → Type 0
AreOrdered n [] = Unit {0}
AreOrdered n (e ∷ es) = HasOperandsBefore n e × AreOrdered (suc n) es

-- no two nodes are alike: each leaf has one node, and so has each pair of operands
abbrev pub AreDistinct : List Entry → Type 0
AreDistinct [] = Unit {0}
AreDistinct (e ∷ es) = (Contains es e → ⊥) × AreDistinct es

-- a log's nodes fit into 32 bits, their operands stand before them, and no two are alike
pub record IsLog (log : List Entry) : Type 0 where
  pub few : length log < 2 ^ 32
  pub ordered : AreOrdered 1 log
  pub distinct : AreDistinct log

-- what a node is made of: node 0 of nothing
abbrev pub entry_at : List Entry → ℕ → Option Entry
entry_at log zero = None
entry_at log (suc n) = slice_get log n

-- ---- how a log grows

-- each node that stood stands, with the same terms
pub record KeepsNodes (old new : List Entry) : Type 0 where
  pub nodes : (n : ℕ) → IsNode old n → IsNode new n
  pub terms : (n : ℕ) → IsNode old n → terms new n ≡ terms old n

-- the entry stands in the log, as its node n: where the entry stood there the log is as it was, and else that entry is
-- all that is new
pub record IsNoted (old : List Entry) (e : Entry) (new : List Entry) (n : ℕ) : Type 0 where
  pub stands : IsNode new n
  pub entry : entry_at new n ≡ Some e
  pub there : Contains old e → new ≡ old
  pub added : (Contains old e → ⊥) → new ≡ old ++ e ∷ []

-- the entry of the union of two nodes: the smaller one is its first operand
abbrev pub union_entry : ℕ → ℕ → Entry
union_entry a b = if nat_lt a b then Union a b else Union b a

-- the node n is a union, and the node o is one of its operands
pub record HasOperand (log : List Entry) (n o : ℕ) : Type 0 where
  pub left : ℕ
  pub right : ℕ
  pub entry : entry_at log n ≡ Some (Union left right)
  pub operand : (o ≡ left) ⊎ (o ≡ right)

-- the union of two nodes stands in the log: they are the same, one of them is empty, or the entry stands there
abbrev pub HasUnion : List Entry → ℕ → ℕ → Type 0
HasUnion log a b = (a ≡ b) ⊎ (a ≡ 0) ⊎ (b ≡ 0) ⊎ Contains log (union_entry a b)

-- the union of the nodes a and b stands in the log, as its node n. That of a node with itself, or with the empty node, is
-- that node, and the log is as it was; any other has its own entry
pub record IsUnited (old : List Entry) (a b : ℕ) (new : List Entry) (n : ℕ) : Type 0 where
  pub stands : IsNode new n
  pub same : a ≡ b → (n ≡ a) × (new ≡ old)
  pub left_empty : a ≡ 0 → (n ≡ b) × (new ≡ old)
  pub right_empty : b ≡ 0 → (n ≡ a) × (new ≡ old)
  pub other : (a ≡ b → ⊥) → 0 < a → 0 < b → IsNoted old (union_entry a b) new n

-- the node n has the leaves of the node o
abbrev pub Covers : List Entry → ℕ → ℕ → Type 0
Covers log n o = terms log n ≡ joined (terms log o) (terms log n)

-- two nodes that differ, neither of them empty
pub record AreTwo (a b : ℕ) : Type 0 where
  pub differ : a ≡ b → ⊥
  pub left : a ≡ 0 → ⊥
  pub right : b ≡ 0 → ⊥

-- neither of two nodes has the other as an operand
abbrev pub AreApart : List Entry → ℕ → ℕ → Type 0
AreApart log a b = (HasOperand log a b → ⊥) × (HasOperand log b a → ⊥)

-- one of both has the other as an operand, or their union stands in the log
abbrev pub HasAbsorbingUnion : List Entry → ℕ → ℕ → Type 0
HasAbsorbingUnion log a b = HasOperand log a b ⊎ HasOperand log b a ⊎ HasUnion log a b

-- the node n is one of two, and the log is as it was
abbrev pub IsOneOf : List Entry → ℕ → ℕ → List Entry → ℕ → Type 0
IsOneOf old a b new n = ((n ≡ a) ⊎ (n ≡ b)) × (new ≡ old)

-- the node n is the one of a and b that has the other as an operand, and the log is as it was. Where neither has, it is one of both too, or
-- else their union
pub record IsAbsorbed (old : List Entry) (a b : ℕ) (new : List Entry) (n : ℕ) : Type 0 where
  pub stands : IsNode new n
  pub left_has : HasOperand old a b → (n ≡ a) × (new ≡ old)
  pub right_has : HasOperand old b a → (n ≡ b) × (new ≡ old)
  pub other : AreApart old a b → IsOneOf old a b new n ⊎ IsUnited old a b new n
