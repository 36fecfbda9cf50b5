-- The labels of bytes, kept in tables of tables of cells. What a table doesn't go to is as if it were empty.
use Rattle.std.specs.Prelude.{◌/◌, ◌%◌, ◌^◌, ℕ, zero, suc, ◌+◌, ◌<◌, ◌≤◌, ◌≡◌, nat_lt, List, [], ◌∷◌, length, slice_index_or, slice_set, ◌==◌, ◌&&◌, Bool, if◌then◌else◌}
use Rattle.std.specs.Global.{Vec}
use Rattle.flow_model.specs.declared.Loc.TheVariants.{Mem}
use Rattle.flow_model.specs.Flow.{distance}
use Rattle.taint_shadow.specs.declared.labels.Label.{Label}
use Rattle.taint_shadow.specs.declared.lanes.Lanes.{Lanes}
use Rattle.taint_shadow.specs.declared.memory.Path.{Path}
use Rattle.taint_shadow.specs.Labels.{start_label}
use Rattle.taint_shadow.specs.Lanes.{lane_at}

abbrev pub items_at : {T : Type 0} → List (Vec T) → ℕ → List T
items_at [] i = []
items_at (v ∷ vs) zero = v.items
items_at (v ∷ vs) (suc i) = items_at vs i

-- the cells of a line, by the numbers of its region, of its page there and of its line there
abbrev pub cells_at : List (Vec (Vec (Vec Label))) → ℕ → ℕ → ℕ → List Label
cells_at regions a b c = items_at (items_at (items_at regions a) b) c

-- where the cell of a byte is
abbrev pub path_to : ℕ → Path
path_to place = record { region = place / 4194304; page = place / 16384 % 256; line = place / 64 % 256; cell = place % 64 }

-- the cells of a byte's line: 64 a line, 256 lines a page, 256 pages a region
abbrev pub cells_of : List (Vec (Vec (Vec Label))) → ℕ → List Label
cells_of regions place = cells_at regions (place / 4194304) (place / 16384 % 256) (place / 64 % 256)

-- the label of a byte, by the cells of its line: that of the start, where it has no cell
abbrev pub cell_or : List Label → ℕ → Label
cell_or cells place = slice_index_or cells (place % 64) (start_label (Mem place))

abbrev pub in_memory : List (Vec (Vec (Vec Label))) → ℕ → Label
in_memory regions place = cell_or (cells_of regions place) place

-- the labels of bytes, with those of the lanes for the n bytes from a place on, round the end of memory
abbrev pub with_bytes : ℕ → ℕ → Lanes → (ℕ → Label) → ℕ → Label
with_bytes place n x f q = if nat_lt (distance place q) n then lane_at x (distance place q) else f q

-- the bytes have these labels
pub record AreBytes (regions : List (Vec (Vec (Vec Label)))) (f : ℕ → Label) : Type 0 where
  pub at : (q : ℕ) → q < 2 ^ 32 → in_memory regions q ≡ f q

-- n bytes from a place on, round the end of memory, have the labels of the lanes now, and the others have what they had
abbrev pub PutsBytes : List (Vec (Vec (Vec Label))) → ℕ → ℕ → Lanes → List (Vec (Vec (Vec Label))) → Type 0
PutsBytes old place n x new = AreBytes new (with_bytes place n x (in_memory old))

-- ---- how lines change

-- the bytes of the line whose first byte is at a place have the labels that they had
abbrev pub IsLineKept : ℕ → List Label → List Label → Type 0
IsLineKept first old new = (q : ℕ) → q / 64 ≡ first / 64 → cell_or new q ≡ cell_or old q

-- the cells with one more label, if it counts
abbrev pub set_if : Bool → List Label → ℕ → Label → List Label
set_if b cells i label = if b then slice_set cells i label else cells

-- the cells of a line with the labels of n lanes from a cell on
abbrev pub with_cells : List Label → ℕ → ℕ → Lanes → List Label
with_cells cells i n x =
    set_if (nat_lt 3 n) (set_if (nat_lt 2 n) (set_if (nat_lt 1 n) (slice_set cells i x.first) (i + 1) x.second) (i + 2) x.third) (i + 3) x.fourth

-- the line of these numbers has these cells now, and the others have what they had
pub record HasLine (old : List (Vec (Vec (Vec Label)))) (r p l : ℕ) (cells : List Label) (new : List (Vec (Vec (Vec Label)))) : Type 0 where
  pub at : (a b c : ℕ) → cells_at new a b c ≡ (if (r == a) && ((p == b) && (l == c)) then cells else cells_at old a b c)

-- the cells of a path's line, and that these have the labels of n lanes from its cell on
abbrev pub cells_by : List (Vec (Vec (Vec Label))) → Path → List Label
cells_by regions path = cells_at regions path.region path.page path.line

abbrev pub PutsLanes : List (Vec (Vec (Vec Label))) → Path → ℕ → Lanes → List (Vec (Vec (Vec Label))) → Type 0
PutsLanes old path n x new = HasLine old path.region path.page path.line (with_cells (cells_by old path) path.cell n x) new

-- the line of these numbers has all its cells now, where its first byte is at `first`, and its bytes have the labels that they had;
-- the other lines have what they had
pub record MakesLine (old : List (Vec (Vec (Vec Label)))) (r p l first : ℕ) (new : List (Vec (Vec (Vec Label)))) : Type 0 where
  pub cells : List Label
  pub room : 64 ≤ length cells
  pub same : IsLineKept first (cells_at old r p l) cells
  pub line : HasLine old r p l cells new
