-- Locations of a list, by a table that holds their places.
use Rattle.std.proofs.Common.{◌≡◌, ◌≢◌, ℕ, zero, suc, ◌+◌, ◌*◌, ◌<◌, ◌≤◌, List, [], ◌∷◌, ◌++◌, length, refl, ap, sym, ◌∙◌, ap₂, subst, cond, ◌-◌, Bool, true, false, ◌||◌, nat_lt, arith, get_or, eqb, slice_get, ltb-true, ltb-false}
use Rattle.std.specs.Prelude.{Some}
use Rattle.std.specs.List.{IsDistinct}
use Rattle.std.specs.Ordering.{eq_by_cmp}
use Rattle.std.proofs.Math.ListN.{set}
use Rattle.std.proofs.lemmas.Bool.{eqb-true, eqb-false, or_left, or_right}
use Rattle.std.proofs.lemmas.Cmp.{eq_by_cmp_equiv}
use Rattle.std.proofs.lemmas.List.{get_or-set_other, get_or-set_same, get_or_append_left, get_or_push, length-append}
use Rattle.std.proofs.lemmas.Map.Keys.{IsDistinct-push}
use Rattle.std.proofs.lemmas.Option.{slice_get-get_or, slice_get_within, get_or_from_slice_get}
use Rattle.lists.specs.Sets.{has}
use Rattle.lists.proofs.Algebra.{tied_by}
use Rattle.lists.proofs.Tests.{true-false}
use Rattle.flow_model.specs.declared.Loc.{Loc}
use Rattle.flow_model.specs.declared.Loc.TheVariants.{Reg, Mem}
use Rattle.flow_model.specs.Orders.{loc_cmp}
use Rattle.flow_model.proofs.Orders.{loc_total, loc_same}
use Rattle.epoch_model.specs.Crossing.{added}
use Rattle.epoch_summary.specs.declared.place_table.PlaceTable.{PlaceTable}
use Rattle.epoch_summary.specs.Slots.{FitsLoc, number_of, slot_of}
use Rattle.epoch_summary.specs.Placed.{ArePlaced, held_at}
use Rattle.epoch_summary.proofs.Slotting.{slots_apart}

-- no two locations have one number
one_number : (l m : Loc) → FitsLoc l → FitsLoc m → number_of l ≡ number_of m → l ≡ m
one_number (Mem p) (Mem q) f g e = ap Mem e
one_number (Mem p) (Reg r i) f g e = absurd (omega (arith, f, e))
one_number (Reg r i) (Mem p) f g e = absurd (omega (arith, g, e))
one_number (Reg r i) (Reg s j) f g e =
    let registers : r ≡ s = omega (arith, f.0, f.1, g.0, g.1, e) in
    let lanes : i ≡ j = omega (arith, f.0, f.1, g.0, g.1, e) in
    ap (λ (q : ℕ). Reg q i) registers ∙ ap (Reg s) lanes

-- ---- what a list has

itself : (l : Loc) → eq_by_cmp loc_cmp l l ≡ true
itself l = (eq_by_cmp_equiv loc_total).refl l

pub has_at : (ls : List Loc) (p : ℕ) (l : Loc) → slice_get ls p ≡ Some l → has loc_cmp l ls ≡ true
has_at [] p l e = cc
has_at (m ∷ ms) zero l e =
    let same : m ≡ l = cc in
    or_left (eq_by_cmp loc_cmp l m) (has loc_cmp l ms) (subst (λ (j : Loc). eq_by_cmp loc_cmp l j ≡ true) (sym same) (itself l))
has_at (m ∷ ms) (suc p) l e = or_right (eq_by_cmp loc_cmp l m) (has loc_cmp l ms) (has_at ms p l e)

place_had : (ls : List Loc) (l : Loc) → has loc_cmp l ls ≡ true → (p : ℕ) × (slice_get ls p ≡ Some l)
place_had [] l e = true-false (sym e)
place_had (m ∷ ms) l e = by (place_had ms l) (eq_by_cmp loc_cmp l m) refl e where
  by : (has loc_cmp l ms ≡ true → (p : ℕ) × (slice_get ms p ≡ Some l)) → (b : Bool) → eq_by_cmp loc_cmp l m ≡ b → (b || has loc_cmp l ms) ≡ true → (p : ℕ) × (slice_get (m ∷ ms) p ≡ Some l)
  by ih true same h = (zero, ap Some (sym (loc_same l m (tied_by (loc_cmp l m) same))))
  by ih false other h = (suc (ih h).0, (ih h).1)

-- ---- by the table

pub not_had : (ls : List Loc) (t : PlaceTable) (l : Loc) → ArePlaced ls t → held_at t (number_of l) ≡ 0 → has loc_cmp l ls ≡ false
not_had ls t l placed none = by (has loc_cmp l ls) refl where
  by : (b : Bool) → has loc_cmp l ls ≡ b → b ≡ false
  by false e = refl
  by true e =
      let at = place_had ls l e in
      let held = placed.held at.0 l at.1 in
      absurd (omega (arith, held, none))

pub none_placed : (t : PlaceTable) → ((n : ℕ) → held_at t n ≡ 0) → ArePlaced [] t
none_placed t none = record { held = λ p l e. cc; stands = λ p l f h. let nothing = none (number_of l) in absurd (omega (arith, nothing, h)) }

pub placed_same : (ls : List Loc) (t u : PlaceTable) → ((n : ℕ) → held_at u n ≡ held_at t n) → ArePlaced ls t → ArePlaced ls u
placed_same ls t u same placed = record { held = λ p l e. same (number_of l) ∙ placed.held p l e; stands = λ p l f h. placed.stands p l f (sym (same (number_of l)) ∙ h) }

pub gets_last : (ls : List Loc) (l : Loc) → slice_get (ls ++ l ∷ []) (length ls) ≡ Some l
gets_last ls l =
    let count = length-append ls (l ∷ []) in
    slice_get-get_or (ls ++ l ∷ []) (length ls) l (omega (arith, count)) ∙ ap Some (get_or_push ls l l (length ls) refl)

-- with one more location, and its place in its slot
module _ (ls : List Loc) (l : Loc) (t u : PlaceTable) (fits : FitsLoc l) (placed : ArePlaced ls t) (none : held_at t (number_of l) ≡ 0)
    (inside : slot_of t.blocks.keys (number_of l) < 64 * length t.blocks.keys)
    (slots : u.slots.items ≡ set t.slots.items (slot_of t.blocks.keys (number_of l)) (length ls + 1)) (blocks : u.blocks.keys ≡ t.blocks.keys) where
  here : held_at u (number_of l) ≡ length ls + 1
  here =
      let room : slot_of t.blocks.keys (number_of l) < length t.slots.items = omega (arith, inside, t.filled.room) in
      rw (slots, blocks) (get_or-set_same t.slots.items (slot_of t.blocks.keys (number_of l)) (length ls + 1) 0 room)

  elsewhere : (n : ℕ) → slot_of t.blocks.keys n ≢ slot_of t.blocks.keys (number_of l) → held_at u n ≡ held_at t n
  elsewhere n other = rw (slots, blocks) (get_or-set_other t.slots.items (slot_of t.blocks.keys (number_of l)) (slot_of t.blocks.keys n) (length ls + 1) 0 other)

  more_gets : (p : ℕ) (m : Loc) → slice_get ls p ≡ Some m → slice_get (ls ++ l ∷ []) p ≡ Some m
  more_gets p m e =
      let within = slice_get_within ls p m e in
      let count = length-append ls (l ∷ []) in
      slice_get-get_or (ls ++ l ∷ []) p m (omega (arith, within, count)) ∙ ap Some (get_or_append_left ls (l ∷ []) m p within ∙ get_or_from_slice_get ls p m m e)

  held_more : (p : ℕ) (m : Loc) → slice_get (ls ++ l ∷ []) p ≡ Some m → held_at u (number_of m) ≡ p + 1
  held_more p m e = by (nat_lt p (length ls)) refl where
    by : (b : Bool) → nat_lt p (length ls) ≡ b → held_at u (number_of m) ≡ p + 1
    by true less =
        let within = ltb-true p (length ls) less in
        let old : slice_get ls p ≡ Some m = slice_get-get_or ls p m within ∙ ap Some (sym (get_or_append_left ls (l ∷ []) m p within) ∙ get_or_from_slice_get (ls ++ l ∷ []) p m m e) in
        let held = placed.held p m old in
        elsewhere (number_of m) (λ s. let zero_there : held_at t (number_of m) ≡ 0 = ap (λ (i : ℕ). get_or t.slots.items i 0) s ∙ none in absurd (omega (arith, zero_there, held))) ∙ held
    by false not_less =
        let past = ltb-false p (length ls) not_less in
        let within = slice_get_within (ls ++ l ∷ []) p m e in
        let count = length-append ls (l ∷ []) in
        let last : length ls ≡ p = omega (arith, past, within, count) in
        let is : l ≡ m = sym (get_or_push ls l m p last) ∙ get_or_from_slice_get (ls ++ l ∷ []) p m m e in
        subst (λ (k : Loc). held_at u (number_of k) ≡ p + 1) is (here ∙ ap (λ (i : ℕ). i + 1) last)

  stands_more : (p : ℕ) (m : Loc) → FitsLoc m → held_at u (number_of m) ≡ p + 1 → slice_get (ls ++ l ∷ []) p ≡ Some m
  stands_more p m f h = by (eqb (slot_of t.blocks.keys (number_of m)) (slot_of t.blocks.keys (number_of l))) refl where
    by : (b : Bool) → eqb (slot_of t.blocks.keys (number_of m)) (slot_of t.blocks.keys (number_of l)) ≡ b → slice_get (ls ++ l ∷ []) p ≡ Some m
    by true e =
        let slot = eqb-true (slot_of t.blocks.keys (number_of m)) (slot_of t.blocks.keys (number_of l)) e in
        let is : m ≡ l = one_number m l f fits (slots_apart t.blocks.keys (number_of m) (number_of l) slot inside) in
        let held : p + 1 ≡ length ls + 1 = sym h ∙ ap (λ (k : Loc). held_at u (number_of k)) is ∙ here in
        let last : length ls ≡ p = omega (arith, held) in
        subst (λ (i : ℕ). slice_get (ls ++ l ∷ []) i ≡ Some m) last (gets_last ls l ∙ ap Some (sym is))
    by false e = more_gets p m (placed.stands p m f (sym (elsewhere (number_of m) (eqb-false (slot_of t.blocks.keys (number_of m)) (slot_of t.blocks.keys (number_of l)) e)) ∙ h))

  pub placed_more : ArePlaced (ls ++ l ∷ []) u
  placed_more = record { held = held_more; stands = stands_more }

-- ---- what is read of a slot

slot_read : (t : PlaceTable) (l : Loc) (number slot past : ℕ) → number ≡ number_of l → slot ≡ slot_of t.blocks.keys number → past ≡ get_or t.slots.items slot 0 → past ≡ held_at t (number_of l)
slot_read t l number slot past is at read = read ∙ ap (λ (i : ℕ). get_or t.slots.items i 0) (at ∙ ap (slot_of t.blocks.keys) is)

pub place_held : (ls : List Loc) (t : PlaceTable) (l : Loc) (past : ℕ) → ArePlaced ls t → FitsLoc l → past ≡ held_at t (number_of l) → 0 < past → slice_get ls (past - 1) ≡ Some l
place_held ls t l past placed fits held above = placed.stands (past - 1) l fits (sym held ∙ omega (arith, above))

pub place_read : (ls : List Loc) (t : PlaceTable) (l : Loc) (number slot past : ℕ) → ArePlaced ls t → FitsLoc l → number ≡ number_of l → slot ≡ slot_of t.blocks.keys number
    → past ≡ get_or t.slots.items slot 0 → 0 < past → slice_get ls (past - 1) ≡ Some l
place_read ls t l number slot past placed fits is at read above = place_held ls t l past placed fits (slot_read t l number slot past is at read) above

pub none_read : (t : PlaceTable) (l : Loc) (number slot past : ℕ) → number ≡ number_of l → slot ≡ slot_of t.blocks.keys number → past ≡ get_or t.slots.items slot 0 → past ≤ 0 → held_at t (number_of l) ≡ 0
none_read t l number slot past is at read none = let held = slot_read t l number slot past is at read in omega (arith, held, none)

pub place_put : (ls : List Loc) (l : Loc) (t u : PlaceTable) (number slot value : ℕ) → FitsLoc l → ArePlaced ls t → held_at t (number_of l) ≡ 0 → number ≡ number_of l → slot ≡ slot_of t.blocks.keys number
    → slot < 64 * length t.blocks.keys → value ≡ length ls + 1 → u.slots.items ≡ set t.slots.items slot value → u.blocks.keys ≡ t.blocks.keys → ArePlaced (ls ++ l ∷ []) u
place_put ls l t u number slot value fits placed none is at inside last slots blocks =
    let there : slot ≡ slot_of t.blocks.keys (number_of l) = at ∙ ap (slot_of t.blocks.keys) is in
    placed_more ls l t u fits placed none (subst (λ (i : ℕ). i < 64 * length t.blocks.keys) there inside)
    (slots ∙ ap₂ (λ (i v : ℕ). set t.slots.items i v) there last) blocks

-- ---- the list, with one that is asked for

pub added_had : (ls : List Loc) (l : Loc) → has loc_cmp l ls ≡ true → ls ≡ added ls l
added_had ls l e = sym (ap (λ (b : Bool). cond b ls (ls ++ l ∷ [])) e)

pub added_last : (ls : List Loc) (l : Loc) → has loc_cmp l ls ≡ false → ls ++ l ∷ [] ≡ added ls l
added_last ls l e = sym (ap (λ (b : Bool). cond b ls (ls ++ l ∷ [])) e)

pub distinct_more : (ls : List Loc) (l : Loc) → IsDistinct (eq_by_cmp loc_cmp) ls → has loc_cmp l ls ≡ false → IsDistinct (eq_by_cmp loc_cmp) (ls ++ l ∷ [])
distinct_more ls l d e = IsDistinct-push (eq_by_cmp_equiv loc_total) ls l d e
