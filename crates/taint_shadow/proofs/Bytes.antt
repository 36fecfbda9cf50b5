-- The labels of bytes, as the cells of their line change.
use Rattle.std.proofs.Common.{◌≡◌, ◌≢◌, ◌<◌, ◌≤◌, ◌==◌, nat_lt, ◌+◌, ◌-◌, ◌/◌, ◌%◌, ◌^◌, ℕ, zero, suc, List, [], ◌∷◌, length, refl, arith, ap, ◌∙◌, sym, Bool, true, false, if◌then◌else◌, ◌&&◌}
use Rattle.std.specs.Prelude.{slice_set, slice_index_or, Result, Ok, Err, OnOk}
use Rattle.std.proofs.lemmas.Bool.{eqb-true, eqb-false, ltb-true, ltb-false}
use Rattle.std.specs.Global.{Vec}
use Rattle.flow_model.specs.declared.Loc.TheVariants.{Mem}
use Rattle.flow_model.specs.Flow.{distance}
use Rattle.isa.specs.Machine.{wrap}
use Rattle.taint_shadow.specs.declared.labels.Label.{Label}
use Rattle.taint_shadow.specs.declared.lanes.Lanes.{Lanes}
use Rattle.taint_shadow.specs.Labels.{start_label}
use Rattle.taint_shadow.specs.Lanes.{lane_at, alike}
use Rattle.taint_shadow.specs.Memory.{cells_at, cells_of, cell_or, in_memory, with_bytes, AreBytes, set_if, with_cells, HasLine, MakesLine}
use Rattle.taint_shadow.proofs.Grown.{cell_set, one_line}

abbrev Regions : Type 0
Regions = List (Vec (Vec (Vec Label)))

-- bytes of a word that lies in one line are in the same line
pub word_line : (R : Regions) (place i : ℕ) → place % 64 + 4 ≤ 64 → i < 4 → cells_of R (place + i) ≡ cells_of R place
word_line R place i h k =
    let a : (place + i) / 4194304 ≡ place / 4194304 = omega (arith, h, k) in
    let b : (place + i) / 16384 % 256 ≡ place / 16384 % 256 = omega (arith, h, k) in
    let c : (place + i) / 64 % 256 ≡ place / 64 % 256 = omega (arith, h, k) in
    ap (λ n. cells_at R n ((place + i) / 16384 % 256) ((place + i) / 64 % 256)) a
    ∙ ap (λ n. cells_at R (place / 4194304) n ((place + i) / 64 % 256)) b ∙ ap (λ n. cells_at R (place / 4194304) (place / 16384 % 256) n) c

pub no_wrap : (place i : ℕ) → place < 2 ^ 32 → place % 64 + 4 ≤ 64 → i < 4 → wrap (place + i) ≡ place + i
no_wrap place i h k l = omega (arith, h, k, l)

-- the cells of a byte's line, as it changes
pub line_of_byte : (old new : Regions) (place : ℕ) (cells : List Label) → HasLine old (place / 4194304) (place / 16384 % 256) (place / 64 % 256) cells new
    → (q : ℕ) → cells_of new q ≡ (if (place / 64) == (q / 64) then cells else cells_of old q)
line_of_byte old new place cells h q = h.at (q / 4194304) (q / 16384 % 256) (q / 64 % 256) ∙ ap (λ (o : Bool). if o then cells else cells_of old q) (one_line place q)

-- ---- lanes that are put into cells

set_length : (b : Bool) (xs : List Label) (i : ℕ) (x : Label) → length (set_if b xs i x) ≡ length xs
set_length true xs i x = plain xs i where
  plain : (ys : List Label) (j : ℕ) → length (slice_set ys j x) ≡ length ys
  plain [] j = refl
  plain (y ∷ ys) zero = refl
  plain (y ∷ ys) (suc j) = ap suc (plain ys j)
set_length false xs i x = refl

-- what a cell has, after one was set if it counts
set_read : (b : Bool) (xs : List Label) (i : ℕ) (x d : Label) (j : ℕ) → (b ≡ true → i < length xs)
    → slice_index_or (set_if b xs i x) j d ≡ (if b && (i == j) then x else slice_index_or xs j d)
set_read true xs i x d j h = cell_set xs i x d j (h refl)
set_read false xs i x d j h = refl

-- the label of a cell among n from i on is that of its lane, and the others stay
pub cells_read : (xs : List Label) (i n : ℕ) (x : Lanes) (d : Label) (j : ℕ) → 1 ≤ n → n ≤ 4 → i + n ≤ length xs
    → slice_index_or (with_cells xs i n x) j d ≡ (if nat_lt j i then slice_index_or xs j d else if nat_lt (j - i) n then lane_at x (j - i) else slice_index_or xs j d)
cells_read xs i n x d j some few room =
    set_read (nat_lt 3 n) three (i + 3) x.fourth d j (λ e. omega (arith, room, ltb-true 3 n e, long_three))
    ∙ ap (λ o. if nat_lt 3 n && (i + 3 == j) then x.fourth else o) (set_read (nat_lt 2 n) two (i + 2) x.third d j (λ e. omega (arith, room, ltb-true 2 n e, long_two)))
    ∙ ap (λ o. if nat_lt 3 n && (i + 3 == j) then x.fourth else if nat_lt 2 n && (i + 2 == j) then x.third else o) (set_read (nat_lt 1 n) one (i + 1) x.second d j (λ e. omega (arith, room, ltb-true 1 n e, long_one)))
    ∙ ap (λ o. if nat_lt 3 n && (i + 3 == j) then x.fourth else if nat_lt 2 n && (i + 2 == j) then x.third else if nat_lt 1 n && (i + 1 == j) then x.second else o) (cell_set xs i x.first d j (omega (arith, room, some)))
    ∙ chosen where
      one : List Label
      one = slice_set xs i x.first

      two : List Label
      two = set_if (nat_lt 1 n) one (i + 1) x.second

      three : List Label
      three = set_if (nat_lt 2 n) two (i + 2) x.third

      long_one : length one ≡ length xs
      long_one = set_length true xs i x.first

      long_two : length two ≡ length xs
      long_two = set_length (nat_lt 1 n) one (i + 1) x.second ∙ long_one

      long_three : length three ≡ length xs
      long_three = set_length (nat_lt 2 n) two (i + 2) x.third ∙ long_two

      chosen : (if nat_lt 3 n && (i + 3 == j) then x.fourth else if nat_lt 2 n && (i + 2 == j) then x.third else if nat_lt 1 n && (i + 1 == j) then x.second else if i == j then x.first else slice_index_or xs j d)
          ≡ (if nat_lt j i then slice_index_or xs j d else if nat_lt (j - i) n then lane_at x (j - i) else slice_index_or xs j d)
      chosen = by (nat_lt j i) refl where
        four : (k : ℕ) → j ≡ i + k → (if nat_lt 3 n && (i + 3 == j) then x.fourth else if nat_lt 2 n && (i + 2 == j) then x.third else if nat_lt 1 n && (i + 1 == j) then x.second else if i == j then x.first else slice_index_or xs j d)
            ≡ (if nat_lt k n then lane_at x k else slice_index_or xs j d)
        four zero e = grind arith
        four (suc zero) e = grind arith
        four (suc (suc zero)) e = grind arith
        four (suc (suc (suc zero))) e = grind arith
        four (suc (suc (suc (suc k)))) e = grind arith

        by : (b : Bool) → nat_lt j i ≡ b → (if nat_lt 3 n && (i + 3 == j) then x.fourth else if nat_lt 2 n && (i + 2 == j) then x.third else if nat_lt 1 n && (i + 1 == j) then x.second else if i == j then x.first else slice_index_or xs j d)
            ≡ (if b then slice_index_or xs j d else if nat_lt (j - i) n then lane_at x (j - i) else slice_index_or xs j d)
        by true e = let below : j < i = ltb-true j i e in grind arith
        by false e = let above : i ≤ j = ltb-false j i e in four (j - i) (omega (arith, above))

-- bytes of one line are labelled
pub word_put : (old new : Regions) (place n : ℕ) (x : Lanes) → place < 2 ^ 32 → 1 ≤ n → n ≤ 4 → place % 64 + n ≤ 64 → place % 64 + n ≤ length (cells_of old place)
    → HasLine old (place / 4194304) (place / 16384 % 256) (place / 64 % 256) (with_cells (cells_of old place) (place % 64) n x) new
    → AreBytes new (with_bytes place n x (in_memory old))
word_put old new place n x inside some few line room h = record { at = λ q small. by q small ((place / 64) == (q / 64)) refl } where
  cells : List Label
  cells = cells_of old place

  read : (q : ℕ) (b : Bool) → (place / 64 == q / 64) ≡ b → in_memory new q ≡ cell_or (if b then with_cells cells (place % 64) n x else cells_of old q) q
  read q b e = ap (λ xs. cell_or xs q) (line_of_byte old new place (with_cells cells (place % 64) n x) h q ∙ ap (λ (o : Bool). if o then with_cells cells (place % 64) n x else cells_of old q) e)

  same_cells : (q : ℕ) → place / 64 ≡ q / 64 → cells_of old q ≡ cells
  same_cells q is =
      let a : q / 4194304 ≡ place / 4194304 = omega (arith, is) in
      let b : q / 16384 % 256 ≡ place / 16384 % 256 = omega (arith, is) in
      let c : q / 64 % 256 ≡ place / 64 % 256 = omega (arith, is) in
      ap (λ k. cells_at old k (q / 16384 % 256) (q / 64 % 256)) a ∙ ap (λ k. cells_at old (place / 4194304) k (q / 64 % 256)) b ∙ ap (λ k. cells_at old (place / 4194304) (place / 16384 % 256) k) c

  far : (q : ℕ) → q < 2 ^ 32 → place / 64 ≢ q / 64 → nat_lt (distance place q) n ≡ false
  far q small other = by_lt (nat_lt (distance place q) n) refl where
    by_lt : (b : Bool) → nat_lt (distance place q) n ≡ b → b ≡ false
    by_lt false e = refl
    by_lt true e = let near : distance place q < n = ltb-true _ _ e in absurd (other (omega (arith, near, small, inside, line)))

  by : (q : ℕ) → q < 2 ^ 32 → (b : Bool) → (place / 64 == q / 64) ≡ b → in_memory new q ≡ with_bytes place n x (in_memory old) q
  by q small false e = read q false e ∙ sym (ap (λ (o : Bool). if o then lane_at x (distance place q) else in_memory old q) (far q small (eqb-false _ _ e)))
  by q small true e =
      let is : place / 64 ≡ q / 64 = eqb-true _ _ e in
      read q true e ∙ cells_read cells (place % 64) n x (start_label (Mem q)) (q % 64) some few room
      ∙ ap (λ xs. if nat_lt (q % 64) (place % 64) then slice_index_or xs (q % 64) (start_label (Mem q)) else if nat_lt (q % 64 - place % 64) n then lane_at x (q % 64 - place % 64) else slice_index_or xs (q % 64) (start_label (Mem q))) (sym (same_cells q is))
      ∙ placed (nat_lt (q % 64) (place % 64)) refl is where
        placed : (b : Bool) → nat_lt (q % 64) (place % 64) ≡ b → place / 64 ≡ q / 64
            → (if b then in_memory old q else if nat_lt (q % 64 - place % 64) n then lane_at x (q % 64 - place % 64) else in_memory old q) ≡ with_bytes place n x (in_memory old) q
        placed true f is =
            let below : q % 64 < place % 64 = ltb-true _ _ f in
            let away : n ≤ distance place q = omega (arith, below, is, small, inside, few) in
            let no : nat_lt (distance place q) n ≡ false = grind arith in
            sym (ap (λ (o : Bool). if o then lane_at x (distance place q) else in_memory old q) no)
        placed false f is =
            let above : place % 64 ≤ q % 64 = ltb-false _ _ f in
            let is_far : q % 64 - place % 64 ≡ distance place q = omega (arith, above, is, small, inside) in
            ap (λ k. if nat_lt k n then lane_at x k else in_memory old q) is_far

-- ---- lines that are made

pub line_made : (old new : Regions) (place : ℕ) → place < 2 ^ 32 → MakesLine old (place / 4194304) (place / 16384 % 256) (place / 64 % 256) (place - place % 64) new
    → AreBytes new (in_memory old) × (64 ≤ length (cells_of new place))
line_made old new place inside m = (record { at = λ q small. by q ((place / 64) == (q / 64)) refl }, room) where
  same_cells : (q : ℕ) → place / 64 ≡ q / 64 → cells_of old q ≡ cells_of old place
  same_cells q is =
      let a : q / 4194304 ≡ place / 4194304 = omega (arith, is) in
      let b : q / 16384 % 256 ≡ place / 16384 % 256 = omega (arith, is) in
      let c : q / 64 % 256 ≡ place / 64 % 256 = omega (arith, is) in
      ap (λ k. cells_at old k (q / 16384 % 256) (q / 64 % 256)) a ∙ ap (λ k. cells_at old (place / 4194304) k (q / 64 % 256)) b ∙ ap (λ k. cells_at old (place / 4194304) (place / 16384 % 256) k) c

  read : (q : ℕ) (b : Bool) → (place / 64 == q / 64) ≡ b → cells_of new q ≡ (if b then m.cells else cells_of old q)
  read q b e = line_of_byte old new place m.cells m.line q ∙ ap (λ (o : Bool). if o then m.cells else cells_of old q) e

  by : (q : ℕ) (b : Bool) → (place / 64 == q / 64) ≡ b → in_memory new q ≡ in_memory old q
  by q false e = ap (λ xs. cell_or xs q) (read q false e)
  by q true e =
      let is : place / 64 ≡ q / 64 = eqb-true _ _ e in
      let first : q / 64 ≡ (place - place % 64) / 64 = omega (arith, is) in
      ap (λ xs. cell_or xs q) (read q true e) ∙ m.same q first ∙ ap (λ xs. cell_or xs q) (sym (same_cells q is))

  room : 64 ≤ length (cells_of new place)
  room = let here : (place / 64 == place / 64) ≡ true = grind arith in omega (arith, m.room, ap length (read place true here))

-- ---- byte after byte

-- one more byte
pub bytes_more : (regions : Regions) (f : ℕ → Label) (place i : ℕ) (x : Lanes) → place < 2 ^ 32 → i < 4 → (before : Regions) → AreBytes before (with_bytes place i x f)
    → AreBytes regions (with_bytes (wrap (place + i)) 1 (alike (lane_at x i)) (in_memory before)) → AreBytes regions (with_bytes place (i + 1) x f)
bytes_more regions f place i x inside few before h put = record { at = λ q small. put.at q small ∙ by q small (nat_lt (distance (wrap (place + i)) q) 1) refl } where
  by : (q : ℕ) → q < 2 ^ 32 → (b : Bool) → nat_lt (distance (wrap (place + i)) q) 1 ≡ b
      → (if b then lane_at (alike (lane_at x i)) (distance (wrap (place + i)) q) else in_memory before q) ≡ with_bytes place (i + 1) x f q
  by q small true e =
      let here : distance (wrap (place + i)) q < 1 = ltb-true _ _ e in
      let none : distance (wrap (place + i)) q ≡ 0 = omega (arith, here) in
      let is : distance place q ≡ i = omega (arith, none, small, inside, few) in
      let last : nat_lt (distance place q) (i + 1) ≡ true = grind arith in
      ap (λ k. lane_at (alike (lane_at x i)) k) none ∙ ap (λ k. lane_at x k) (sym is)
      ∙ sym (ap (λ (o : Bool). if o then lane_at x (distance place q) else f q) last)
  by q small false e =
      let other : 1 ≤ distance (wrap (place + i)) q = ltb-false _ _ e in
      let apart : distance place q ≢ i = (λ is. absurd (omega (arith, other, is, small, inside, few))) in
      let same : nat_lt (distance place q) i ≡ nat_lt (distance place q) (i + 1) = grind arith in
      h.at q small ∙ ap (λ (o : Bool). if o then lane_at x (distance place q) else f q) same

pub no_bytes : (regions : Regions) (place : ℕ) (x : Lanes) → AreBytes regions (with_bytes place 0 x (in_memory regions))
no_bytes regions place x = record { at = λ q small. let none : nat_lt (distance place q) 0 ≡ false = grind arith in sym (ap (λ (o : Bool). if o then lane_at x (distance place q) else in_memory regions q) none) }

-- bytes are labelled after their line was made
pub put_after : (old mid new : Regions) (place n : ℕ) (x : Lanes) → AreBytes mid (in_memory old) → AreBytes new (with_bytes place n x (in_memory mid)) → AreBytes new (with_bytes place n x (in_memory old))
put_after old mid new place n x made put = record {
  at = λ q small. put.at q small ∙ ap (λ l. if nat_lt (distance place q) n then lane_at x (distance place q) else l) (made.at q small);
}

-- two facts of one result
pub on_both : {T E P Q S : Type 0} (r : Result T E) → (P → Q → S) → OnOk r P → OnOk r Q → OnOk r S
on_both (Ok x) f p q = f p q
on_both (Err e) f p q = tt
