-- Labels of locations, one by one; and content that moves by a table of targets, a target after another.
use Rattle.std.proofs.Common.{◌≡◌, ◌≢◌, ◌==◌, ℕ, zero, suc, ◌+◌, ◌<◌, Bool, true, false, List, [], ◌∷◌, ◌++◌, length, get_or, set, drop, refl, ap, ap₂, sym, ◌∙◌, arith, slice_index_or, ◌-◌, if◌then◌else◌, map, subst}
use Rattle.std.proofs.lemmas.List.{drop_more, get_or-set_same, get_or-set_other}
use Rattle.flow_model.specs.declared.Loc.{Loc}
use Rattle.flow_model.specs.declared.Loc.TheVariants.{Reg, Mem}
use Rattle.flow_model.specs.Flow.{loc_eq, Target}
use Rattle.path_find.specs.declared.nodes.Label.{Label}
use Rattle.path_find.specs.declared.nodes.Label.TheVariants.{Nothing, Read, At}
use Rattle.path_find.specs.Labels.{is_nothing, StandsIn, path_at, MakesLabel, KeepsLabels}
use Rattle.path_find.specs.Carriers.{label_or, first_label, kept, IsSet}
use Rattle.std.specs.Prelude.{Some, slice_get}
use Rattle.std.specs.Option.{option_or}
use Rattle.std.proofs.lemmas.Option.{same_Some}
use Rattle.flow_model.specs.Ranges.{IsLocation, AreLocations, IsTable}
use Rattle.flow_model.proofs.Located.{origins_located}
use Rattle.path_find.specs.Paths.{arrived, first_of}
use Rattle.path_find.specs.declared.nodes.Node.{Node}
use Rattle.path_find.specs.declared.carriers.Carriers.{Carriers}
use Rattle.path_find.specs.Trails.{told, AreStanding, Becomes, carried, AreFirst}

-- one more label that is nothing
pub nothing_more : (xs : List Label) (k : ℕ) → slice_index_or xs k Nothing ≡ Nothing → slice_index_or (xs ++ Nothing ∷ []) k Nothing ≡ Nothing
nothing_more [] zero e = refl
nothing_more [] (suc k) e = refl
nothing_more (x ∷ xs) zero e = e
nothing_more (x ∷ xs) (suc k) e = nothing_more xs k e

-- the first of a list, where its head is nothing, and where it isn't
pub head_is_nothing : (f : Loc → Label) (ls : List Loc) (k : ℕ) (d : Loc) → k < length ls → is_nothing (f (get_or ls k d)) ≡ true
    → first_label f (drop k ls) ≡ first_label f (drop (k + 1) ls)
head_is_nothing f ls k d lt e = ap (first_label f) (drop_more ls k d lt) ∙ by (f (get_or ls k d)) e where
  by : (l : Label) → is_nothing l ≡ true → label_or l (first_label f (drop (k + 1) ls)) ≡ first_label f (drop (k + 1) ls)
  by Nothing e = refl
  by label e = absurd cc

pub head_is_first : (f : Loc → Label) (ls : List Loc) (k : ℕ) (d : Loc) → k < length ls → is_nothing (f (get_or ls k d)) ≡ false
    → f (get_or ls k d) ≡ first_label f (drop k ls)
head_is_first f ls k d lt e = by (f (get_or ls k d)) e ∙ sym (ap (first_label f) (drop_more ls k d lt)) where
  by : (l : Label) → is_nothing l ≡ false → l ≡ label_or l (first_label f (drop (k + 1) ls))
  by Nothing e = absurd cc
  by label e = refl

pub same_loc : (l q : Loc) → loc_eq l q ≡ true → l ≡ q
same_loc (Reg r i) (Reg s j) e = let a : r ≡ s = grind arith in let b : i ≡ j = grind arith in ap₂ Reg a b
same_loc (Reg r i) (Mem p) e = absurd (grind arith)
same_loc (Mem p) (Reg r i) e = absurd (grind arith)
same_loc (Mem p) (Mem q) e = let a : p ≡ q = grind arith in ap Mem a

-- one label of some is another
pub other_label : (xs : List Label) (i j : ℕ) (x y : Label) → i < length xs → (j ≡ i → x ≡ y) → ((j ≡ i → ⊥) → get_or xs j Nothing ≡ y) → get_or (set xs i x) j Nothing ≡ y
other_label xs i j x y lt here there = by (j == i) refl where
  by : (b : Bool) → (j == i) ≡ b → get_or (set xs i x) j Nothing ≡ y
  by true e = let same : j ≡ i = grind arith in ap (λ (k : ℕ). get_or (set xs i x) k Nothing) same ∙ get_or-set_same xs i x Nothing lt ∙ here same
  by false e = let apart : j ≢ i = λ same. absurd (grind arith) in get_or-set_other xs i j x Nothing apart ∙ there apart

-- ---- the first label

-- it stands for the first path
pub first_is : (ns : List Node) (c : Carriers) (ls : List Loc) → path_at ns (first_label (kept c) ls) ≡ first_of (told ns c) ls
first_is ns c [] = refl
first_is ns c (l ∷ ls) = by (kept c l) ∙ ap (option_or (path_at ns (kept c l))) (first_is ns c ls) where
  by : (k : Label) → path_at ns (label_or k (first_label (kept c) ls)) ≡ option_or (path_at ns k) (path_at ns (first_label (kept c) ls))
  by Nothing = refl
  by Read = refl
  by (At i) = refl

pub first_stands : (ns : List Node) (c : Carriers) → AreStanding ns c → (ls : List Loc) → AreLocations ls → StandsIn ns (first_label (kept c) ls)
first_stands ns c s [] h = tt
first_stands ns c s (l ∷ ls) h = by (kept c l) (s.at l h.0) (first_stands ns c s ls h.1) where
  by : (k : Label) → StandsIn ns k → StandsIn ns (first_label (kept c) ls) → StandsIn ns (label_or k (first_label (kept c) ls))
  by Nothing a b = b
  by Read a b = tt
  by (At i) a b = a

-- ---- one target

abbrev no_target : Target
no_target = record { loc = Reg 0 0; origins = [] }

map_at : {X : Type 0} (f : Target → X) (ts : List Target) (i : ℕ) (d : Target) → i < length ts → slice_get (map f ts) i ≡ Some (f (get_or ts i d))
map_at f [] i d h = absurd (omega arith)
map_at f (t ∷ ts) zero d h = refl
map_at f (t ∷ ts) (suc i) d h = map_at f ts i d (omega (arith, h))

pub length_map : (ts : List Target) → length (map (λ (t : Target). t.origins) ts) ≡ length ts
length_map [] = refl
length_map (t ∷ ts) = ap suc (length_map ts)

-- the label for a target is the first of its origins, and it stands
pub label_is : (ns : List Node) (c : Carriers) (ts : List Target) (labels : List Label) (i : ℕ) → i < length ts → AreFirst c ts labels
    → slice_index_or labels i Nothing ≡ first_label (kept c) (get_or ts i no_target).origins
label_is ns c ts labels i lt first = first i (get_or ts i no_target).origins (map_at (λ t. t.origins) ts i no_target lt)

pub label_stands : (ns : List Node) (c : Carriers) (ts : List Target) (labels : List Label) (i : ℕ) → i < length ts → AreFirst c ts labels → AreStanding ns c → IsTable ts
    → StandsIn ns (slice_index_or labels i Nothing)
label_stands ns c ts labels i lt first s table =
    subst (StandsIn ns) (sym (label_is ns c ts labels i lt first))
    (first_stands ns c s (get_or ts i no_target).origins (origins_located ts i (get_or ts i no_target).origins table (map_at (λ t. t.origins) ts i no_target lt)))

-- a target has its content, and those after it had theirs
pub one_carried : (old : List Node) (before : Carriers) (t : ℕ) (ts : List Target) (labels : List Label) (n done : ℕ) (mid : List Node) (between : Carriers) (new : List Node) (now : Carriers)
    (loc : Loc) (label : Label) → n ≡ length ts → done < n → IsTable ts → AreStanding old before → AreFirst before ts labels
    → slice_get (map (λ t. t.loc) ts) (n - 1 - done) ≡ Some loc
    → Becomes old mid between (carried t (told old before) (drop (n - done) ts))
    → MakesLabel new (arrived t loc (path_at mid (slice_index_or labels (n - 1 - done) Nothing))) label → KeepsLabels mid new → IsSet between loc label now
    → Becomes old new now (carried t (told old before) (drop (n - (done + 1)) ts))
one_carried old before t ts labels n done mid between new now loc label size more table stands first at was made keeps put = record {
  paths = λ l here. paths l here (loc_eq loc l) refl;
  standing = record { at = λ l here. standing l here (loc_eq loc l) refl };
  keeps = λ k h. (let a = was.keeps k h in let b = keeps k a.stands in record { stands = b.stands; means = b.means ∙ a.means });
} where
  lt : (n - 1 - done) < length ts
  lt = omega (arith, size, more)

  split : drop (n - (done + 1)) ts ≡ get_or ts (n - 1 - done) no_target ∷ drop (n - done) ts
  split =
      let here : n - (done + 1) ≡ n - 1 - done = omega arith in
      let next : n - 1 - done + 1 ≡ n - done = omega (arith, more) in
      ap (λ (k : ℕ). drop k ts) here ∙ drop_more ts (n - 1 - done) no_target lt ∙ ap (λ (k : ℕ). get_or ts (n - 1 - done) no_target ∷ drop k ts) next

  target_is : (get_or ts (n - 1 - done) no_target).loc ≡ loc
  target_is = same_Some _ _ (sym (map_at (λ t. t.loc) ts (n - 1 - done) no_target lt) ∙ at)

  first_path : path_at mid (slice_index_or labels (n - 1 - done) Nothing) ≡ first_of (told old before) (get_or ts (n - 1 - done) no_target).origins
  first_path =
      (was.keeps (slice_index_or labels (n - 1 - done) Nothing) (label_stands old before ts labels (n - 1 - done) lt first stands table)).means
      ∙ ap (path_at old) (label_is old before ts labels (n - 1 - done) lt first) ∙ first_is old before (get_or ts (n - 1 - done) no_target).origins

  goal_is : (l : Loc) → carried t (told old before) (drop (n - (done + 1)) ts) l
      ≡ (if loc_eq loc l then arrived t l (first_of (told old before) (get_or ts (n - 1 - done) no_target).origins) else carried t (told old before) (drop (n - done) ts) l)
  goal_is l = ap (λ (us : List Target). carried t (told old before) us l) split
      ∙ ap (λ (m : Loc). if loc_eq m l then arrived t l (first_of (told old before) (get_or ts (n - 1 - done) no_target).origins) else carried t (told old before) (drop (n - done) ts) l) target_is

  now_is : (l : Loc) → IsLocation l → (b : Bool) → loc_eq loc l ≡ b → kept now l ≡ (if b then label else kept between l)
  now_is l here b e = put.at l here ∙ ap (λ (c : Bool). if c then label else kept between l) e

  paths : (l : Loc) → IsLocation l → (b : Bool) → loc_eq loc l ≡ b → told new now l ≡ carried t (told old before) (drop (n - (done + 1)) ts) l
  paths l here true e =
      ap (path_at new) (now_is l here true e) ∙ made.means ∙ ap (arrived t loc) first_path
      ∙ ap (λ (m : Loc). arrived t m (first_of (told old before) (get_or ts (n - 1 - done) no_target).origins)) (same_loc loc l e)
      ∙ sym (goal_is l ∙ ap (λ (c : Bool). if c then arrived t l (first_of (told old before) (get_or ts (n - 1 - done) no_target).origins) else carried t (told old before) (drop (n - done) ts) l) e)
  paths l here false e =
      ap (path_at new) (now_is l here false e) ∙ (keeps (kept between l) (was.standing.at l here)).means ∙ was.paths l here
      ∙ sym (goal_is l ∙ ap (λ (c : Bool). if c then arrived t l (first_of (told old before) (get_or ts (n - 1 - done) no_target).origins) else carried t (told old before) (drop (n - done) ts) l) e)

  standing : (l : Loc) → IsLocation l → (b : Bool) → loc_eq loc l ≡ b → StandsIn new (kept now l)
  standing l here true e = subst (StandsIn new) (sym (now_is l here true e)) made.stands
  standing l here false e = subst (StandsIn new) (sym (now_is l here false e)) (keeps (kept between l) (was.standing.at l here)).stands
