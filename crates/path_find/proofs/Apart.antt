-- A step that touches nothing of the source byte changes nothing.
use Rattle.std.proofs.Common.{◌≡◌, ℕ, zero, suc, ◌+◌, ◌==◌, ◌<◌, Bool, true, false, if◌then◌else◌, List, [], ◌∷◌, map, refl, ap, sym, ◌∙◌, arith}
use Rattle.std.specs.Prelude.{Option, None}
use Rattle.std.specs.List.{AllByRecursion, range_with_len}
use Rattle.std.specs.Option.{option_or}
use Rattle.lists.specs.Sets.{union}
use Rattle.lists.proofs.Algebra.{All-union}
use Rattle.isa.specs.Machine.{wrap}
use Rattle.flow_model.specs.declared.Loc.{Loc}
use Rattle.flow_model.specs.declared.Loc.TheVariants.{Reg, Mem}
use Rattle.flow_model.specs.declared.Rule.TheVariants.{Index}
use Rattle.flow_model.specs.Orders.{loc_cmp}
use Rattle.flow_model.specs.Flow.{Target, lane, lanes, all_lanes, in_first_lane, to_register, to_memory, with_base, loc_eq}
use Rattle.flow_model.specs.Ranges.{IsLocation, AreLocations, IsTable}
use Rattle.flow_rule.specs.declared.shape.Mixing.{Mixing}
use Rattle.flow_rule.specs.declared.shape.Mixing.TheVariants.{EachLane, AllLanes, ShiftedLanes, FirstLane}
use Rattle.flow_rule.specs.Shapes.{mixed_lanes}
use Rattle.path_find.specs.declared.Arrival.{Arrival}
use Rattle.path_find.specs.Paths.{arrived, first_of}
use Rattle.path_find.specs.declared.nodes.Node.{Node}
use Rattle.path_find.specs.declared.carriers.Carriers.{Carriers}
use Rattle.path_find.specs.Labels.{path_at}
use Rattle.path_find.specs.Carriers.{HasNothing}
use Rattle.path_find.specs.Trails.{told, AreStanding, Becomes, IsApart, carried}
use Rattle.path_find.proofs.Tables.{same_loc}

-- ---- the locations of a store

module _ (P : Loc → Type 0) where
  in_union : (ls ms : List Loc) → AllByRecursion P ls → AllByRecursion P ms → AllByRecursion P (union loc_cmp ls ms)
  in_union = All-union loc_cmp P

  in_lane : (r i : ℕ) → P (Reg r i) → AllByRecursion P (lane r i)
  in_lane r i h = by (r == 0) where
    by : (b : Bool) → AllByRecursion P (if b then [] else Reg r i ∷ [])
    by true = tt
    by false = (h, tt)

  in_lanes : (r : ℕ) → ((i : ℕ) → P (Reg r i)) → AllByRecursion P (lanes r)
  in_lanes r h = by (r == 0) where
    by : (b : Bool) → AllByRecursion P (if b then [] else Reg r 0 ∷ Reg r 1 ∷ Reg r 2 ∷ Reg r 3 ∷ [])
    by true = tt
    by false = (h 0, (h 1, (h 2, (h 3, tt))))

  register_apart : (r : ℕ) (origins : ℕ → List Loc) → ((i : ℕ) → P (Reg r i)) → ((i : ℕ) → AllByRecursion P (origins i)) → IsApart P (to_register r origins)
  register_apart r origins h k = by (r == 0) where
    by : (b : Bool) → IsApart P (if b then [] else map (λ i. record { loc = Reg r i; origins = origins i }) (range_with_len 0 4))
    by true = tt
    by false = (h 0, k 0, (h 1, k 1, (h 2, k 2, (h 3, k 3, tt))))

  in_first : (ls : List Loc) (i : ℕ) → AllByRecursion P ls → AllByRecursion P (in_first_lane ls i)
  in_first ls i h = by (i == 0) where
    by : (b : Bool) → AllByRecursion P (if b then ls else [])
    by true = h
    by false = tt

  in_mixed : (mixing : Mixing) (a b i : ℕ) → ((j : ℕ) → P (Reg a j)) → ((j : ℕ) → P (Reg b j)) → AllByRecursion P (mixed_lanes mixing a b i)
  in_mixed EachLane a b i h k = in_union (lane a i) (lane b i) (in_lane a i (h i)) (in_lane b i (k i))
  in_mixed AllLanes a b i h k = in_union (lanes a) (lanes b) (in_lanes a h) (in_lanes b k)
  in_mixed ShiftedLanes a b i h k = in_union (lanes a) (lane b 0) (in_lanes a h) (in_lane b 0 (k 0))
  in_mixed FirstLane a b i h k = in_first (all_lanes a b 0) i (in_union (lanes a) (lanes b) (in_lanes a h) (in_lanes b k))

  pub mixed_apart : (mixing : Mixing) (d a b : ℕ) → ((i : ℕ) → P (Reg d i)) → ((i : ℕ) → P (Reg a i)) → ((i : ℕ) → P (Reg b i)) → IsApart P (to_register d (mixed_lanes mixing a b))
  mixed_apart mixing d a b x h k = register_apart d (mixed_lanes mixing a b) x (λ i. in_mixed mixing a b i h k)

  bytes_apart : (place : ℕ) (origins : ℕ → List Loc) (m n : ℕ) → ((i : ℕ) → i < m + n → P (Mem (wrap (place + i)))) → ((i : ℕ) → AllByRecursion P (origins i))
      → IsApart P (map (λ i. record { loc = Mem (wrap (place + i)); origins = origins i }) (range_with_len m n))
  bytes_apart place origins m zero h k = tt
  bytes_apart place origins m (suc n) h k =
      (h m (omega arith), k m, bytes_apart place origins (m + 1) n (λ i lt. h i (omega (arith, lt))) k)

  pub store_apart : (r base place n : ℕ) → ((i : ℕ) → P (Reg r i)) → ((i : ℕ) → P (Reg base i)) → ((i : ℕ) → i < n → P (Mem (wrap (place + i))))
      → IsApart P (to_memory place n (λ i. with_base Index base (lane r i)))
  store_apart r base place n h k b =
      bytes_apart place (λ i. with_base Index base (lane r i)) 0 n (λ i lt. b i (omega (arith, lt))) (λ i. in_union (lanes base) (lane r i) (in_lanes base k) (in_lane r i (h i)))

-- ---- what is apart stays

module _ (ns : List Node) (c : Carriers) where
  told_none : (l : Loc) → IsLocation l → HasNothing c l → told ns c l ≡ None
  told_none l here h = ap (path_at ns) (h here)

  none_first : (ls : List Loc) → AreLocations ls → AllByRecursion (HasNothing c) ls → first_of (told ns c) ls ≡ None
  none_first [] here h = refl
  none_first (l ∷ ls) here h = ap (λ (o : Option (List Arrival)). option_or o (first_of (told ns c) ls)) (told_none l here.0 h.0) ∙ none_first ls here.1 h.1

  unmoved : (t : ℕ) (ts : List Target) → IsTable ts → IsApart (HasNothing c) ts → (l : Loc) → IsLocation l → told ns c l ≡ carried t (told ns c) ts l
  unmoved t [] table h l here = refl
  unmoved t (x ∷ ts) table h l here = by (loc_eq x.loc l) refl (unmoved t ts table.2 h.2 l here) where
    by : (b : Bool) → loc_eq x.loc l ≡ b → told ns c l ≡ carried t (told ns c) ts l → told ns c l ≡ (if b then arrived t l (first_of (told ns c) x.origins) else carried t (told ns c) ts l)
    by true e ih =
        let none : told ns c l ≡ None = ap (told ns c) (sym (same_loc x.loc l e)) ∙ told_none x.loc table.0 h.0 in
        none ∙ sym (ap (arrived t l) (none_first x.origins table.1 h.1))
    by false e ih = ih

  pub apart_stays : (t : ℕ) (ts : List Target) → AreStanding ns c → IsTable ts → IsApart (HasNothing c) ts → Becomes ns ns c (carried t (told ns c) ts)
  apart_stays t ts s table h = record { paths = unmoved t ts table h; standing = s; keeps = λ k stands. record { stands = stands; means = refl } }
