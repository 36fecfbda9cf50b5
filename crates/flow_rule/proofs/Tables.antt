-- Tables of targets, entry by entry. The table is a list that is known to be one.
use Rattle.std.proofs.Common.{◌≡◌, ◌≢◌, ℕ, ◌+◌, ◌<◌, ◌≤◌, List, [], length, map, arith, ap, sym, ◌∙◌}
use Rattle.std.specs.Prelude.{slice_get, Some, Bool, if◌then◌else◌}
use Rattle.std.specs.Option.{option_map}
use Rattle.std.specs.List.{range_with_len}
use Rattle.std.proofs.lemmas.Bool.{ne_eqb}
use Rattle.std.proofs.lemmas.Option.{slice_get-map, slice_get-get_or}
use Rattle.std.proofs.lemmas.List.FromFn.{length-map-range_with_len, get_or-map-range_with_len}
use Rattle.flow_model.specs.Flow.{Target}
use Rattle.flow_rule.specs.declared.flows.Targets.{Targets}
use Rattle.flow_rule.specs.declared.flows.Origins.{Origins}
use Rattle.flow_rule.specs.declared.flows.Origins.TheVariants.{Same, First, Each}
use Rattle.flow_rule.specs.declared.locations.Locations.{Locations}
use Rattle.flow_rule.specs.Locations.{locs_of}
use Rattle.flow_rule.specs.Flows.{count_of, room_of, target_at, origins_at, table_of}

-- one of a list made from numbers
slice_get-made : {X : Type 0} (f : ℕ → X) (n i : ℕ) → i < n → slice_get (map f (range_with_len 0 n)) i ≡ Some (f i)
slice_get-made f n i h =
    let within : i < length (map f (range_with_len 0 n)) = omega (arith, length-map-range_with_len f 0 n) in
    let there : 0 + i ≡ i = omega arith in
    slice_get-get_or (map f (range_with_len 0 n)) i (f i) within ∙ ap Some (get_or-map-range_with_len f 0 n i i (f i) h there)

pub length_is : (targets : Targets) (origins : Origins) (xs : List Target) → table_of targets origins ≡ xs → length xs ≡ count_of targets
length_is targets origins xs e = sym (ap length e) ∙ length-map-range_with_len _ 0 (count_of targets)

pub entry_is : {X : Type 0} (part : Target → X) (targets : Targets) (origins : Origins) (xs : List Target) (i : ℕ) → table_of targets origins ≡ xs → i < length xs
    → slice_get (map part xs) i ≡ Some (part (record { loc = target_at targets i; origins = origins_at origins i }))
entry_is part targets origins xs i e h =
    let within : i < count_of targets = omega (arith, length_is targets origins xs e) in
    ap (λ (ys : List Target). slice_get (map part ys) i) (sym e) ∙ slice_get-map part (table_of targets origins) i
    ∙ ap (option_map part) (slice_get-made _ (count_of targets) i within)

pub loc_is : (targets : Targets) (origins : Origins) (xs : List Target) (i : ℕ) → table_of targets origins ≡ xs → i < length xs
    → slice_get (map (λ (t : Target). t.loc) xs) i ≡ Some (target_at targets i)
loc_is = entry_is (λ t. t.loc)

pub origins_are : (targets : Targets) (origins : Origins) (xs : List Target) (i : ℕ) → table_of targets origins ≡ xs → i < length xs
    → slice_get (map (λ (t : Target). t.origins) xs) i ≡ Some (origins_at origins i)
origins_are = entry_is (λ t. t.origins)

room_small : (origins : Origins) → room_of origins ≤ 8
room_small (Same locs) = omega arith
room_small origins = omega arith

pub index_small : (targets : Targets) (origins : Origins) (xs : List Target) (i : ℕ) → count_of targets ≤ room_of origins → table_of targets origins ≡ xs → i < length xs → i < 8
index_small targets origins xs i r e h = omega (arith, length_is targets origins xs e, room_small origins)

pub lane_small : (targets : Targets) (origins : Origins) (lanes : List Locations) (xs : List Target) (i : ℕ) → count_of targets ≤ room_of origins → table_of targets origins ≡ xs → origins ≡ Each lanes → i < length xs → i < 4
lane_small targets origins lanes xs i r e is h = omega (arith, length_is targets origins xs e, ap room_of is)

-- from the second target on
pub none_at : (locs : Locations) (i : ℕ) → i ≢ 0 → origins_at (First locs) i ≡ []
none_at locs i h = ap (λ (b : Bool). if b then locs_of locs else []) (ne_eqb i 0 h)
