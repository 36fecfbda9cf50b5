-- The order of places is total, only the same tie, and the derived order is the definition's. Crates above cite these lemmas.
use Rattle.std.proofs.Common.{◌≡◌, ℕ, ap, ap₂, nat_cmp}
use Rattle.std.specs.Ordering.{ordering_then}
use Rattle.std.specs.Cmp.{IsTotalOrder, on_total}
use Rattle.std.specs.Cmp.Lexicographic.{nat_list_cmp_total}
use Rattle.std.specs.FinMap.{IsAntisymmetric}
use Rattle.std.specs.declared.cmp.Ordering.{Ordering}
use Rattle.flow_model.specs.declared.Loc.{Loc}
use Rattle.flow_model.specs.Orders.{loc_key}
use Rattle.flow_model.proofs.Orders.{same_lists, same_loc}
use Rattle.flow_model.proofs.Derived.{loc_order_is}
use Rattle.decision_find.specs.declared.Place.{Place}
use Rattle.decision_find.specs.contracts.PlaceOrd.TheImpl as of_place
use Rattle.decision_find.specs.Places.{place_key, place_cmp}

pub place_total : IsTotalOrder place_cmp
place_total = on_total place_key nat_list_cmp_total

same_place : (a b : Place) → place_key a ≡ place_key b → a ≡ b
same_place a b e =
    let make : ℕ → Loc → Place = λ p l. record { pc = p; loc = l } in
    let p : a.pc ≡ b.pc = cc in
    let k : loc_key a.loc ≡ loc_key b.loc = cc in
    ap₂ make p (same_loc a.loc b.loc k)

pub place_same : IsAntisymmetric place_cmp
place_same a b e = same_place a b (same_lists (place_key a) (place_key b) e)

-- ---- the derived order

abbrev pub place_compared : Place → Place → Ordering
place_compared = of_place.cmp-value.it

place_alike : (a b : Place) → place_cmp a b ≡ place_compared a b
place_alike a b = ap (λ (c : Loc → Loc → Ordering). ordering_then (nat_cmp a.pc b.pc) (c a.loc b.loc)) loc_order_is

pub place_order_is : place_cmp ≡ place_compared
place_order_is = λ i a b. place_alike a b i
