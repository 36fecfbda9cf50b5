-- Tables of tables, as they grow and as one of them changes.
use Rattle.std.proofs.Common.{◌≡◌, ◌≢◌, ◌<◌, ◌+◌, ◌≤◌, ◌==◌, ◌/◌, ◌%◌, ℕ, zero, suc, List, [], ◌∷◌, ◌++◌, length, refl, arith, ap, ◌∙◌, sym, subst, Bool, true, false, if◌then◌else◌, ◌&&◌}
use Rattle.std.specs.Prelude.{slice_set, slice_index_or}
use Rattle.std.proofs.lemmas.Bool.{eqb-true, eqb-false}
use Rattle.std.specs.Global.{Vec}
use Rattle.taint_shadow.specs.declared.labels.Label.{Label}
use Rattle.taint_shadow.specs.Memory.{items_at, cells_at, HasLine}

module _ {T : Type 0} where
  -- an empty table at the end
  pub items_more : (vs : List (Vec T)) (v : Vec T) (i : ℕ) → v.items ≡ [] → items_at (vs ++ v ∷ []) i ≡ items_at vs i
  items_more [] v zero e = e
  items_more [] v (suc i) e = refl
  items_more (w ∷ vs) v zero e = refl
  items_more (w ∷ vs) v (suc i) e = items_more vs v i e

  set_same : (vs : List (Vec T)) (i : ℕ) (v : Vec T) → i < length vs → items_at (slice_set vs i v) i ≡ v.items
  set_same [] i v h = absurd (omega arith)
  set_same (w ∷ vs) zero v h = refl
  set_same (w ∷ vs) (suc i) v h = set_same vs i v (omega arith)

  set_other : (vs : List (Vec T)) (i : ℕ) (v : Vec T) (j : ℕ) → i ≢ j → items_at (slice_set vs i v) j ≡ items_at vs j
  set_other [] i v j h = refl
  set_other (w ∷ vs) zero v zero h = absurd (h refl)
  set_other (w ∷ vs) zero v (suc j) h = refl
  set_other (w ∷ vs) (suc i) v zero h = refl
  set_other (w ∷ vs) (suc i) v (suc j) h = set_other vs i v j (λ e. h (ap suc e))

  items_read : (vs : List (Vec T)) (i : ℕ) (d : Vec T) → i < length vs → items_at vs i ≡ (slice_index_or vs i d).items
  items_read [] i d h = absurd (omega arith)
  items_read (w ∷ vs) zero d h = refl
  items_read (w ∷ vs) (suc i) d h = items_read vs i d (omega arith)

  pub items_found : (vs : List (Vec T)) (i : ℕ) (v : Vec T) → i < length vs → v ≡ slice_index_or vs i v → v.items ≡ items_at vs i
  items_found vs i v h is = ap (λ (w : Vec T). w.items) is ∙ sym (items_read vs i v h)

  pub items_beyond : (vs : List (Vec T)) (i : ℕ) → length vs ≤ i → items_at vs i ≡ []
  items_beyond [] i h = refl
  items_beyond (w ∷ vs) zero h = absurd (omega arith)
  items_beyond (w ∷ vs) (suc i) h = items_beyond vs i (omega arith)

-- what is read of cells, where one more comes, and where one is set
pub cell_more : {X : Type 0} (xs : List X) (x d : X) (j : ℕ) → (j ≡ length xs → x ≡ d) → slice_index_or (xs ++ x ∷ []) j d ≡ slice_index_or xs j d
cell_more [] x d zero h = h refl
cell_more [] x d (suc j) h = refl
cell_more (y ∷ xs) x d zero h = refl
cell_more (y ∷ xs) x d (suc j) h = cell_more xs x d j (λ e. h (ap suc e))

pub cell_same : {X : Type 0} (xs : List X) (i : ℕ) (x d : X) → i < length xs → slice_index_or (slice_set xs i x) i d ≡ x
cell_same [] i x d h = absurd (omega arith)
cell_same (y ∷ xs) zero x d h = refl
cell_same (y ∷ xs) (suc i) x d h = cell_same xs i x d (omega arith)

pub cell_other : {X : Type 0} (xs : List X) (i : ℕ) (x d : X) (j : ℕ) → i ≢ j → slice_index_or (slice_set xs i x) j d ≡ slice_index_or xs j d
cell_other [] i x d j h = refl
cell_other (y ∷ xs) zero x d zero h = absurd (h refl)
cell_other (y ∷ xs) zero x d (suc j) h = refl
cell_other (y ∷ xs) (suc i) x d zero h = refl
cell_other (y ∷ xs) (suc i) x d (suc j) h = cell_other xs i x d j (λ e. h (ap suc e))

pub cell_set : {X : Type 0} (xs : List X) (i : ℕ) (x d : X) (j : ℕ) → i < length xs → slice_index_or (slice_set xs i x) j d ≡ (if i == j then x else slice_index_or xs j d)
cell_set {X} xs i x d j h = by (i == j) refl where
  by : (b : Bool) → (i == j) ≡ b → slice_index_or (slice_set xs i x) j d ≡ (if b then x else slice_index_or xs j d)
  by true e = subst (λ (k : ℕ). slice_index_or (slice_set xs i x) k d ≡ x) (eqb-true i j e) (cell_same xs i x d h)
  by false e = cell_other xs i x d j (eqb-false i j e)

last_read : {X : Type 0} (xs : List X) (x d : X) → slice_index_or (xs ++ x ∷ []) (length xs) d ≡ x
last_read [] x d = refl
last_read (y ∷ xs) x d = last_read xs x d

-- what holds of each of a list holds of each with one more
pub push_read : {X : Type 0} (P : ℕ → X → Type 0) (xs : List X) (x d : X) → ((r : ℕ) → r < length xs → P r (slice_index_or xs r d)) → P (length xs) x
    → (r : ℕ) → r < length xs + 1 → P r (slice_index_or (xs ++ x ∷ []) r d)
push_read {X} P xs x d each last r h = by (r == length xs) refl where
  by : (b : Bool) → (r == length xs) ≡ b → P r (slice_index_or (xs ++ x ∷ []) r d)
  by true e = subst (λ (k : ℕ). P k (slice_index_or (xs ++ x ∷ []) k d)) (sym (eqb-true r (length xs) e)) (subst (P (length xs)) (sym (last_read xs x d)) last)
  by false e =
      let other = eqb-false r (length xs) e in
      subst (P r) (sym (cell_more xs x d r (λ k. absurd (other k)))) (each r (omega (arith, h, other)))

-- a table in which one is set
pub table_set : {T : Type 0} (old new : List (Vec T)) (i : ℕ) (v : Vec T) → i < length new → ((j : ℕ) → items_at new j ≡ items_at old j)
    → (j : ℕ) → items_at (slice_set new i v) j ≡ (if i == j then v.items else items_at old j)
table_set {T} old new i v h same j = by (i == j) refl where
  by : (b : Bool) → (i == j) ≡ b → items_at (slice_set new i v) j ≡ (if b then v.items else items_at old j)
  by true e = let here : i ≡ j = grind arith in subst (λ (k : ℕ). items_at (slice_set new i v) k ≡ v.items) here (set_same new i v h)
  by false e = set_other new i v j (λ here. absurd (grind arith)) ∙ same j

-- a table that isn't empty lies in the tables
pub table_there : {T : Type 0} (vs : List (Vec T)) (i : ℕ) → 0 < length (items_at vs i) → i < length vs
table_there [] i h = absurd (omega arith)
table_there (v ∷ vs) zero h = omega arith
table_there (v ∷ vs) (suc i) h = let there = table_there vs i h in omega arith

-- a line that has cells lies in its page, and that in its region
pub cells_there : (R : List (Vec (Vec (Vec Label)))) (a b c : ℕ) → 0 < length (cells_at R a b c) → (a < length R) × (b < length (items_at R a)) × (c < length (items_at (items_at R a) b))
cells_there R a b c some =
    let in_page = table_there (items_at (items_at R a) b) c some in
    let in_region = table_there (items_at R a) b (omega (arith, in_page)) in
    (table_there R a (omega (arith, in_region)), in_region, in_page)

-- one line changes, where its tables may have grown before
pub line_set : (R S : List (Vec (Vec (Vec Label)))) (pages : List (Vec (Vec Label))) (lines : List (Vec Label)) (V : Vec (Vec (Vec Label))) (W : Vec (Vec Label)) (X : Vec Label) (r p l : ℕ)
    → r < length S → ((j : ℕ) → items_at S j ≡ items_at R j) → V.items ≡ slice_set pages p W
    → p < length pages → ((j : ℕ) → items_at pages j ≡ items_at (items_at R r) j) → W.items ≡ slice_set lines l X
    → l < length lines → ((j : ℕ) → items_at lines j ≡ cells_at R r p j)
    → HasLine R r p l X.items (slice_set S r V)
line_set R S pages lines V W X r p l hr sr isV hp sp isW hl sl = record { at = λ a b c. by a b c (r == a) (p == b) refl refl } where
  in_line : (c : ℕ) → items_at W.items c ≡ (if l == c then X.items else cells_at R r p c)
  in_line c = ap (λ (vs : List (Vec Label)). items_at vs c) isW ∙ table_set lines lines l X hl (λ j. refl) c ∙ ap (λ (o : List Label). if l == c then X.items else o) (sl c)

  in_page : (b : ℕ) → items_at V.items b ≡ (if p == b then W.items else items_at (items_at R r) b)
  in_page b = ap (λ (vs : List (Vec (Vec Label))). items_at vs b) isV ∙ table_set (items_at R r) pages p W hp sp b

  by : (a b c : ℕ) (x y : Bool) → (r == a) ≡ x → (p == b) ≡ y → cells_at (slice_set S r V) a b c ≡ (if (r == a) && ((p == b) && (l == c)) then X.items else cells_at R a b c)
  by a b c false y e f =
      ap (λ (vs : List (Vec (Vec Label))). items_at (items_at vs b) c) (table_set R S r V hr sr a ∙ ap (λ (o : Bool). if o then V.items else items_at R a) e)
      ∙ sym (ap (λ (o : Bool). if o && ((p == b) && (l == c)) then X.items else cells_at R a b c) e)
  by a b c true false e f =
      let is : r ≡ a = eqb-true r a e in
      ap (λ (vs : List (Vec (Vec Label))). items_at (items_at vs b) c) (table_set R S r V hr sr a ∙ ap (λ (o : Bool). if o then V.items else items_at R a) e)
      ∙ ap (λ (vs : List (Vec Label)). items_at vs c) (in_page b ∙ ap (λ (o : Bool). if o then W.items else items_at (items_at R r) b) f)
      ∙ ap (λ (k : ℕ). cells_at R k b c) is
      ∙ sym (ap (λ (o : Bool). if o && ((p == b) && (l == c)) then X.items else cells_at R a b c) e ∙ ap (λ (o : Bool). if o && (l == c) then X.items else cells_at R a b c) f)
  by a b c true true e f =
      let is : r ≡ a = eqb-true r a e in
      let also : p ≡ b = eqb-true p b f in
      ap (λ (vs : List (Vec (Vec Label))). items_at (items_at vs b) c) (table_set R S r V hr sr a ∙ ap (λ (o : Bool). if o then V.items else items_at R a) e)
      ∙ ap (λ (vs : List (Vec Label)). items_at vs c) (in_page b ∙ ap (λ (o : Bool). if o then W.items else items_at (items_at R r) b) f)
      ∙ in_line c
      ∙ ap (λ (k : ℕ). if l == c then X.items else cells_at R k p c) is ∙ ap (λ (k : ℕ). if l == c then X.items else cells_at R a k c) also
      ∙ sym (ap (λ (o : Bool). if o && ((p == b) && (l == c)) then X.items else cells_at R a b c) e ∙ ap (λ (o : Bool). if o && (l == c) then X.items else cells_at R a b c) f)

-- two bytes are in one line where the numbers of its region, of its page and of the line are the same
pub one_line : (p q : ℕ) → (((p / 4194304) == (q / 4194304)) && (((p / 16384 % 256) == (q / 16384 % 256)) && ((p / 64 % 256) == (q / 64 % 256)))) ≡ ((p / 64) == (q / 64))
one_line p q = by ((p / 64) == (q / 64)) refl ((p / 4194304) == (q / 4194304)) ((p / 16384 % 256) == (q / 16384 % 256)) ((p / 64 % 256) == (q / 64 % 256)) refl refl refl where
  by : (o : Bool) → ((p / 64) == (q / 64)) ≡ o → (a b c : Bool) → ((p / 4194304) == (q / 4194304)) ≡ a → ((p / 16384 % 256) == (q / 16384 % 256)) ≡ b → ((p / 64 % 256) == (q / 64 % 256)) ≡ c → (a && (b && c)) ≡ o
  by true e true true true f g h = refl
  by true e false b c f g h =
      let is : p / 64 ≡ q / 64 = eqb-true _ _ e in let same : p / 4194304 ≡ q / 4194304 = omega (arith, is) in absurd (eqb-false _ _ f same)
  by true e true false c f g h =
      let is : p / 64 ≡ q / 64 = eqb-true _ _ e in let same : p / 16384 % 256 ≡ q / 16384 % 256 = omega (arith, is) in absurd (eqb-false _ _ g same)
  by true e true true false f g h =
      let is : p / 64 ≡ q / 64 = eqb-true _ _ e in let same : p / 64 % 256 ≡ q / 64 % 256 = omega (arith, is) in absurd (eqb-false _ _ h same)
  by false e false b c f g h = refl
  by false e true false c f g h = refl
  by false e true true false f g h = refl
  by false e true true true f g h =
      let first : (p / 4194304) ≡ (q / 4194304) = eqb-true _ _ f in
      let second : (p / 16384 % 256) ≡ (q / 16384 % 256) = eqb-true _ _ g in
      let third : (p / 64 % 256) ≡ (q / 64 % 256) = eqb-true _ _ h in
      let is : p / 64 ≡ q / 64 = omega (arith, first, second, third) in
      absurd (eqb-false _ _ e is)

-- what is found on the way to a line that has cells
module _ (R : List (Vec (Vec (Vec Label)))) (a b c : ℕ) (V : Vec (Vec (Vec Label))) (W : Vec (Vec Label)) (X : Vec Label)
    (some : 0 < length (cells_at R a b c)) (isV : V ≡ slice_index_or R a V) (isW : W ≡ slice_index_or V.items b W) (isX : X ≡ slice_index_or W.items c X) where
  pub pages_found : V.items ≡ items_at R a
  pages_found = items_found R a V (cells_there R a b c some).0 isV

  pub page_there : b < length V.items
  page_there = omega (arith, (cells_there R a b c some).1, ap length pages_found)

  pub lines_found : W.items ≡ items_at (items_at R a) b
  lines_found = items_found V.items b W page_there isW ∙ ap (λ vs. items_at vs b) pages_found

  pub line_there : c < length W.items
  line_there = omega (arith, (cells_there R a b c some).2, ap length lines_found)

  pub cells_found : X.items ≡ cells_at R a b c
  cells_found = items_found W.items c X line_there isX ∙ ap (λ vs. items_at vs c) lines_found
