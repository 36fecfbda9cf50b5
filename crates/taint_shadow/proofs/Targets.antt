-- What a table of targets gives for a location, and what becomes of the locations that are labelled by it.
use Rattle.std.proofs.Common.{◌≡◌, ◌≢◌, ◌<◌, ◌≤◌, ◌^◌, ◌==◌, nat_lt, ℕ, zero, suc, ◌+◌, List, [], ◌∷◌, map, refl, arith, ap, sym, ◌∙◌, subst, Bool, true, false, if◌then◌else◌, ◌&&◌}
use Rattle.std.specs.List.{range_with_len}
use Rattle.std.proofs.lemmas.Bool.{eqb-true, eqb-false, ltb-true}
use Rattle.flow_model.specs.declared.Loc.{Loc}
use Rattle.flow_model.specs.declared.Loc.TheVariants.{Reg, Mem}
use Rattle.isa.specs.Machine.{wrap}
use Rattle.flow_model.specs.Flow.{Target, origins_by, loc_eq, distance, to_register, to_memory}
use Rattle.flow_model.specs.Ranges.{IsLocation}
use Rattle.taint_shadow.specs.declared.labels.Label.{Label}
use Rattle.taint_shadow.specs.declared.lanes.Lanes.{Lanes}
use Rattle.taint_shadow.specs.declared.places.Places.{Places}
use Rattle.taint_shadow.specs.Labels.{LabelWords, MakesLabel, KeepsLabels, nothing_label}
use Rattle.taint_shadow.specs.Lanes.{lane_at, clean}
use Rattle.taint_shadow.specs.Places.{kept, AreKept, with_lanes, with_word}
use Rattle.taint_shadow.specs.Steps.{meaning_at, AreStanding, Becomes, united_over, turned, is_among}
use Rattle.taint_shadow.proofs.Meaning.{AreHere, united_same, alike_at}

-- ---- targets by number

module _ (at : ℕ → Loc) (from : ℕ → List Loc) where
  abbrev table : ℕ → ℕ → List Target
  table m n = map (λ i. record { loc = at i; origins = from i }) (range_with_len m n)

  -- a target has its own origins, where no two targets are one location
  found : (m n i : ℕ) → ((j : ℕ) → loc_eq (at j) (at i) ≡ true → j < m + n → j ≡ i) → loc_eq (at i) (at i) ≡ true → m ≤ i → i < m + n → origins_by (table m n) (at i) ≡ from i
  found m zero i apart same low high = absurd (omega arith)
  found m (suc n) i apart same low high =
      by (loc_eq (at m) (at i)) refl (λ other. found (m + 1) n i (λ j t less. apart j t (omega arith)) same (omega arith) (omega arith)) where
        by : (b : Bool) → loc_eq (at m) (at i) ≡ b → (m ≢ i → origins_by (table (m + 1) n) (at i) ≡ from i) → (if b then from m else origins_by (table (m + 1) n) (at i)) ≡ from i
        by true e ih = ap from (apart m e (omega arith))
        by false e ih = ih (λ k. let t : loc_eq (at m) (at i) ≡ true = subst (λ (j : ℕ). loc_eq (at j) (at i) ≡ true) (sym k) same in cc)

  missed : (m n : ℕ) (l : Loc) → ((j : ℕ) → m ≤ j → j < m + n → loc_eq (at j) l ≡ false) → origins_by (table m n) l ≡ l ∷ []
  missed m zero l h = refl
  missed m (suc n) l h = rw (h m (omega arith) (omega arith)) (missed (m + 1) n l (λ j low high. h j (omega arith) (omega arith)))

-- ---- the lanes of a register, and bytes of memory

same_lane : (d i j : ℕ) → loc_eq (Reg d j) (Reg d i) ≡ true → j ≡ i
same_lane d i j e = grind arith

itself : (l : Loc) → loc_eq l l ≡ true
itself (Reg r i) = grind arith
itself (Mem p) = grind arith

pub lane_found : (d i : ℕ) (from : ℕ → List Loc) → 0 < d → i < 4 → origins_by (to_register d from) (Reg d i) ≡ from i
lane_found d i from h k = by (d == 0) refl where
  by : (b : Bool) → (d == 0) ≡ b → origins_by (if b then [] else map (λ i. record { loc = Reg d i; origins = from i }) (range_with_len 0 4)) (Reg d i) ≡ from i
  by true e = absurd (grind arith)
  by false e = found (Reg d) from 0 4 i (λ j t less. same_lane d i j t) (itself (Reg d i)) (omega arith) (omega arith)

pub lane_missed : (d : ℕ) (from : ℕ → List Loc) (l : Loc) → ((j : ℕ) → loc_eq (Reg d j) l ≡ false) → origins_by (to_register d from) l ≡ l ∷ []
lane_missed d from l e = by (d == 0) where
  by : (b : Bool) → origins_by (if b then [] else map (λ i. record { loc = Reg d i; origins = from i }) (range_with_len 0 4)) l ≡ l ∷ []
  by true = refl
  by false = missed (Reg d) from 0 4 l (λ j low high. e j)

same_byte : (place i j : ℕ) → place < 2 ^ 32 → i < 4 → j < 4 → wrap (place + j) ≡ wrap (place + i) → j ≡ i
same_byte place i j h k l e = omega arith

pub byte_found : (place size i : ℕ) (from : ℕ → List Loc) → place < 2 ^ 32 → size ≤ 4 → i < size → origins_by (to_memory place size from) (Mem (wrap (place + i))) ≡ from i
byte_found place size i from p s h = found (λ j. Mem (wrap (place + j))) from 0 size i
    (λ j t less. same_byte place i j p (omega arith) (omega arith) (grind arith)) (itself (Mem (wrap (place + i)))) (omega arith) (omega arith)

pub byte_distance : (place i : ℕ) → place < 2 ^ 32 → i < 4 → distance place (wrap (place + i)) ≡ i
byte_distance place i h k = omega arith

pub distance_byte : (place p : ℕ) → place < 2 ^ 32 → p < 2 ^ 32 → wrap (place + distance place p) ≡ p
distance_byte place p h k = omega arith

-- bytes without labels stay as they are where they get none
pub bytes_clean : (p : Places) (place n : ℕ) → place < 2 ^ 32 → n ≤ 4 → ((i : ℕ) → i < 4 → kept p (Mem (wrap (place + i))) ≡ nothing_label) → AreKept p (with_word place n clean (kept p))
bytes_clean p place n inside few none = record { at = by } where
  by : (l : Loc) → IsLocation l → kept p l ≡ with_word place n clean (kept p) l
  by (Reg r i) here = refl
  by (Mem m) here = at (nat_lt (distance place m) n) refl where
    at : (b : Bool) → nat_lt (distance place m) n ≡ b → kept p (Mem m) ≡ (if b then lane_at clean (distance place m) else kept p (Mem m))
    at true e =
        let near : distance place m < n = ltb-true _ _ e in
        let low : distance place m < 4 = omega (arith, near, few) in
        ap (λ (q : ℕ). kept p (Mem q)) (sym (distance_byte place m inside here)) ∙ none (distance place m) low ∙ sym (alike_at nothing_label (distance place m) low)
    at false e = refl

not_byte : (place n j : ℕ) (l : Loc) → place < 2 ^ 32 → n ≤ 4 → is_among place n l ≡ false → j < n → loc_eq (Mem (wrap (place + j))) l ≡ false
not_byte place n j (Reg r i) h k e less = refl
not_byte place n j (Mem p) h k e less = by (wrap (place + j) == p) refl where
  by : (b : Bool) → (wrap (place + j) == p) ≡ b → b ≡ false
  by false f = refl
  by true f =
      let is : wrap (place + j) ≡ p = grind arith in
      let far : distance place p ≡ j = ap (distance place) (sym is) ∙ byte_distance place j h (omega arith) in
      let in_it : nat_lt (distance place p) n ≡ true = grind arith in
      absurd cc

pub byte_missed : (place size : ℕ) (from : ℕ → List Loc) (l : Loc) → place < 2 ^ 32 → size ≤ 4 → is_among place size l ≡ false → origins_by (to_memory place size from) l ≡ l ∷ []
byte_missed place size from l h k e = missed (λ j. Mem (wrap (place + j))) from 0 size l (λ j low high. not_byte place size j l h k e (omega arith))

-- ---- what becomes of the locations

module _ {A M : Type 0} (words : LabelWords A M) (a b : A) (p q : Places) (standing : AreStanding words a p) (keeps : KeepsLabels words a b) where
  abbrev over : List Loc → M
  over ls = united_over words (meaning_at words a p) ls

  -- each location has a label of what flows into it
  becomes : (ts : List Target) → ((l : Loc) → IsLocation l → MakesLabel words b (over (origins_by ts l)) (kept q l)) → ((l : Loc) → IsLocation l → AreHere (origins_by ts l))
      → Becomes words a p b q (turned words ts)
  becomes ts made here = record {
    holds = λ f h. record { at = λ l in_range. (made l in_range).means ∙ united_same words (meaning_at words a p) f h.at (origins_by ts l) (here l in_range) };
    standing = record { at = λ l in_range. (made l in_range).stands };
    keeps = keeps;
  }

  -- a location that is no target keeps its label
  same : (l : Loc) → IsLocation l → (ls : List Loc) → ls ≡ l ∷ [] → kept q l ≡ kept p l → MakesLabel words b (over ls) (kept q l)
  same l here ls own is =
      let stays : MakesLabel words b (words.means a (kept p l)) (kept q l) = subst (MakesLabel words b (words.means a (kept p l))) (sym is) (keeps (kept p l) (standing.at l here)) in
      subst (λ (ms : List Loc). MakesLabel words b (over ms) (kept q l)) (sym own) stays

  -- a target has the label that was made for it
  new : (l : Loc) (ls from : List Loc) (label : Label) → ls ≡ from → kept q l ≡ label → MakesLabel words b (over from) label → MakesLabel words b (over ls) (kept q l)
  new l ls from label own is made =
      subst (λ (ms : List Loc). MakesLabel words b (over ms) (kept q l)) (sym own) (subst (MakesLabel words b (over from)) (sym is) made)

  own_here : (l : Loc) (ls : List Loc) → IsLocation l → ls ≡ l ∷ [] → AreHere ls
  own_here l ls here own = subst AreHere (sym own) (here, tt)

  -- the lanes of a register
  pub register_turned : (d : ℕ) (from : ℕ → List Loc) (x : Lanes) → ((i : ℕ) → i < 4 → MakesLabel words b (over (from i)) (lane_at x i))
      → ((i : ℕ) → i < 4 → AreHere (from i)) → AreKept q (with_lanes d x (kept p)) → Becomes words a p b q (turned words (to_register d from))
  register_turned d from x made located set = becomes (to_register d from) (λ l here. makes l here) (λ l here. lies l here) where
    other : (l : Loc) → ((j : ℕ) → loc_eq (Reg d j) l ≡ false) → origins_by (to_register d from) l ≡ l ∷ []
    other l e = lane_missed d from l e

    unlike : (r i j : ℕ) → (d == r) ≡ false → loc_eq (Reg d j) (Reg r i) ≡ false
    unlike r i j e = ap (λ (o : Bool). o && (j == i)) e

    none : (l : Loc) → (d == 0) ≡ true → origins_by (to_register d from) l ≡ l ∷ []
    none l e = ap (λ (o : Bool). origins_by (if o then [] else map (λ i. record { loc = Reg d i; origins = from i }) (range_with_len 0 4)) l) e

    own : (r i : ℕ) → i < 4 → (d == 0) ≡ false → (d == r) ≡ true → origins_by (to_register d from) (Reg r i) ≡ from i
    own r i small z e =
        let is : d ≡ r = eqb-true d r e in
        let some : 0 < d = omega (arith, eqb-false d 0 z) in
        subst (λ (k : ℕ). origins_by (to_register d from) (Reg k i) ≡ from i) is (lane_found d i from some small)

    makes : (l : Loc) → IsLocation l → MakesLabel words b (over (origins_by (to_register d from) l)) (kept q l)
    makes (Mem m) here = same (Mem m) here _ (other (Mem m) (λ j. refl)) (set.at (Mem m) here)
    makes (Reg r i) here = by (d == 0) (d == r) refl refl where
      by : (z e : Bool) → (d == 0) ≡ z → (d == r) ≡ e → MakesLabel words b (over (origins_by (to_register d from) (Reg r i))) (kept q (Reg r i))
      by true e f g = same (Reg r i) here _ (none (Reg r i) f) (set.at (Reg r i) here ∙ ap (λ (o : Bool). if o then kept p (Reg r i) else if d == r then lane_at x i else kept p (Reg r i)) f)
      by false true f g = new (Reg r i) _ (from i) (lane_at x i) (own r i here.1 f g)
          (set.at (Reg r i) here ∙ ap (λ (o : Bool). if o then kept p (Reg r i) else if d == r then lane_at x i else kept p (Reg r i)) f
          ∙ ap (λ (o : Bool). if o then lane_at x i else kept p (Reg r i)) g) (made i here.1)
      by false false f g = same (Reg r i) here _ (other (Reg r i) (λ j. unlike r i j g))
          (set.at (Reg r i) here ∙ ap (λ (o : Bool). if o then kept p (Reg r i) else if d == r then lane_at x i else kept p (Reg r i)) f
          ∙ ap (λ (o : Bool). if o then lane_at x i else kept p (Reg r i)) g)

    lies : (l : Loc) → IsLocation l → AreHere (origins_by (to_register d from) l)
    lies (Mem m) here = own_here (Mem m) _ here (other (Mem m) (λ j. refl))
    lies (Reg r i) here = by (d == 0) (d == r) refl refl where
      by : (z e : Bool) → (d == 0) ≡ z → (d == r) ≡ e → AreHere (origins_by (to_register d from) (Reg r i))
      by true e f g = own_here (Reg r i) _ here (none (Reg r i) f)
      by false true f g = subst AreHere (sym (own r i here.1 f g)) (located i here.1)
      by false false f g = own_here (Reg r i) _ here (other (Reg r i) (λ j. unlike r i j g))

  -- bytes of memory
  pub memory_turned : (place size : ℕ) (from : ℕ → List Loc) (x : Lanes) → place < 2 ^ 32 → size ≤ 4
      → ((i : ℕ) → i < size → MakesLabel words b (over (from i)) (lane_at x i)) → ((i : ℕ) → i < size → AreHere (from i))
      → AreKept q (with_word place size x (kept p)) → Becomes words a p b q (turned words (to_memory place size from))
  memory_turned place size from x inside few made located set = becomes (to_memory place size from) (λ l here. makes l here) (λ l here. lies l here) where
    own : (m : ℕ) → m < 2 ^ 32 → distance place m < size → origins_by (to_memory place size from) (Mem m) ≡ from (distance place m)
    own m h near = subst (λ (k : ℕ). origins_by (to_memory place size from) (Mem k) ≡ from (distance place m)) (distance_byte place m inside h)
        (byte_found place size (distance place m) from inside few near)

    other : (l : Loc) → is_among place size l ≡ false → origins_by (to_memory place size from) l ≡ l ∷ []
    other l e = byte_missed place size from l inside few e

    makes : (l : Loc) → IsLocation l → MakesLabel words b (over (origins_by (to_memory place size from) l)) (kept q l)
    makes (Reg r i) here = same (Reg r i) here _ (other (Reg r i) refl) (set.at (Reg r i) here)
    makes (Mem m) here = by (nat_lt (distance place m) size) refl where
      by : (o : Bool) → nat_lt (distance place m) size ≡ o → MakesLabel words b (over (origins_by (to_memory place size from) (Mem m))) (kept q (Mem m))
      by true e =
          let near : distance place m < size = ltb-true _ _ e in
          new (Mem m) _ (from (distance place m)) (lane_at x (distance place m)) (own m here near)
          (set.at (Mem m) here ∙ ap (λ (o : Bool). if o then lane_at x (distance place m) else kept p (Mem m)) e) (made (distance place m) near)
      by false e = same (Mem m) here _ (other (Mem m) e) (set.at (Mem m) here ∙ ap (λ (o : Bool). if o then lane_at x (distance place m) else kept p (Mem m)) e)

    lies : (l : Loc) → IsLocation l → AreHere (origins_by (to_memory place size from) l)
    lies (Reg r i) here = own_here (Reg r i) _ here (other (Reg r i) refl)
    lies (Mem m) here = by (nat_lt (distance place m) size) refl where
      by : (o : Bool) → nat_lt (distance place m) size ≡ o → AreHere (origins_by (to_memory place size from) (Mem m))
      by true e = let near : distance place m < size = ltb-true _ _ e in subst AreHere (sym (own m here near)) (located (distance place m) near)
      by false e = own_here (Mem m) _ here (other (Mem m) e)
