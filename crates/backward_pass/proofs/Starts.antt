-- Start locations that are asked, and their places.
use Rattle.std.proofs.Common.{◌≡◌, ℕ, zero, suc, ◌+◌, ◌<◌, List, [], ◌∷◌, ◌++◌, length, take, get_or, refl, ap, sym, ◌∙◌, subst, Bool, true, false, ◌||◌, cond, arith, slice_get, Some}
use Rattle.std.specs.List.{IsDistinct}
use Rattle.std.specs.Ordering.{eq_by_cmp}
use Rattle.std.proofs.Math.Seq.{take-suc}
use Rattle.std.proofs.lemmas.Bool.{and_parts, and_from}
use Rattle.std.proofs.lemmas.Option.{slice_get_within, get_or_from_slice_get}
use Rattle.std.proofs.lemmas.List.Elements.{All-from_recursion}
use Rattle.std.proofs.lemmas.List.Folds.{list_any-append}
use Rattle.flow_model.specs.declared.Loc.{Loc}
use Rattle.lists.specs.Sets.{has, is_within}
use Rattle.flow_model.specs.Orders.{loc_cmp}
use Rattle.epoch_model.specs.Crossing.{added, added_all}
use Rattle.std.proofs.lemmas.Cmp.{eq_by_cmp_equiv}
use Rattle.flow_model.proofs.Orders.{loc_total}
use Rattle.epoch_model.proofs.Adding.{any_added_all, added_all-append}
use Rattle.stream_model.specs.Streams.{places_up_to}
use Rattle.stream_model.proofs.Growing.{added_all_keeps}

-- ---- the place of one location

-- where each is asked once, a location stands at one place alone
pub place_is : (asked : List Loc) (l : Loc) (i : ℕ) → IsDistinct (eq_by_cmp loc_cmp) asked → slice_get asked i ≡ Some l → places_up_to asked l ≡ i + 1
unfolding IsDistinct
place_is [] l i d is = cc
place_is (m ∷ ms) l zero d is =
    let same : m ≡ l = cc in
    ap (λ (k : Loc). cond (eq_by_cmp loc_cmp l k) 1 (1 + places_up_to ms l)) same ∙ ap (λ (b : Bool). cond b 1 (1 + places_up_to ms l)) ((eq_by_cmp_equiv loc_total).refl l)
place_is (m ∷ ms) l (suc i) d is =
    let rest = place_is ms l i d.1 is in
    let apart : eq_by_cmp loc_cmp m l ≡ false =
    subst (λ (k : Loc). eq_by_cmp loc_cmp m k ≡ false) (get_or_from_slice_get ms i l l is) (All-from_recursion _ ms d.0 i l (slice_get_within ms i l is)) in
    ap (λ (b : Bool). cond b 1 (1 + places_up_to ms l)) ((eq_by_cmp_equiv loc_total).symm l m ∙ apart) ∙ omega (arith, rest)

-- ---- several locations

-- each that was added is asked
pub within_added : (asked ls : List Loc) → is_within loc_cmp ls (added_all asked ls) ≡ true
within_added asked [] = refl
within_added asked (l ∷ ls) =
    let more = added_all_keeps (added asked l) ls in
    and_from _ _
    (ap (has loc_cmp l) (sym more.1) ∙ list_any-append (eq_by_cmp loc_cmp l) (added asked l) more.0 ∙ ap (λ (b : Bool). b || has loc_cmp l more.0) own)
    (within_added (added asked l) ls)
  where
    either : (a b : Bool) → b ≡ true → (a || b) ≡ true
    either true b e = refl
    either false b e = e

    own : has loc_cmp l (added asked l) ≡ true
    own = any_added_all (eq_by_cmp loc_cmp l) asked (l ∷ []) ∙ either (has loc_cmp l asked) _ (ap (λ (b : Bool). b || false) ((eq_by_cmp_equiv loc_total).refl l))

-- those that are all asked change nothing
pub all_asked : (asked ls : List Loc) → is_within loc_cmp ls asked ≡ true → added_all asked ls ≡ asked
all_asked asked [] e = refl
all_asked asked (l ∷ ls) e =
    let parts = and_parts (has loc_cmp l asked) (is_within loc_cmp ls asked) e in
    ap (λ (b : Bool). added_all (cond b asked (asked ++ l ∷ [])) ls) parts.0 ∙ all_asked asked ls parts.1

-- one more is added
pub added_next : (asked ls : List Loc) (i : ℕ) (d : Loc) → i < length ls → added_all asked (take (i + 1) ls) ≡ added (added_all asked (take i ls)) (get_or ls i d)
added_next asked ls i d h =
    let later : i + 1 ≡ suc i = omega arith in
    ap (λ (j : ℕ). added_all asked (take j ls)) later ∙ ap (added_all asked) (take-suc ls i d h)
    ∙ added_all-append asked (take i ls) (get_or ls i d ∷ [])
