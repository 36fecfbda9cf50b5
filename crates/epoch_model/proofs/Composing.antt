-- Stretches of a trace compose. Crates above cite these lemmas.
use Rattle.std.proofs.Common.{◌≡◌, ℕ, zero, suc, ◌+◌, List, [], ◌∷◌, ap, ap₂, sym, ◌∙◌, Bool, ◌||◌, arith}
use Rattle.std.specs.Prelude.{Option, Some, None}
use Rattle.std.specs.List.{list_any}
use Rattle.std.specs.Ordering.{eq_by_cmp}
use Rattle.std.proofs.Math.Bool.{or-false, or_assoc}
use Rattle.flow_model.specs.declared.Loc.{Loc}
use Rattle.flow_model.specs.declared.Rule.{Rule}
use Rattle.flow_model.specs.declared.SourceByte.{SourceByte}
use Rattle.flow_model.specs.declared.StepSeen.{StepSeen}
use Rattle.lists.specs.Sets.{union, Ascends}
use Rattle.flow_model.specs.Orders.{source_cmp, loc_cmp}
use Rattle.flow_model.specs.Flow.{from}
use Rattle.flow_model.specs.Origins.{Policy, origins, fresh, union_over, after_step, step_at}
use Rattle.lists.proofs.Algebra.{Ascends-union, same_list}
use Rattle.lists.proofs.Lists.{list_any-same}
use Rattle.flow_model.proofs.Orders.{loc_total, loc_same, source_total, source_same}
use Rattle.flow_model.proofs.Origins.{Ascends-union_over, Ascends-origins}
use Rattle.epoch_model.specs.Stretch.{locations_over, from_step, fresh_step, past, born}
use Rattle.epoch_model.specs.StretchLaws.{OriginsCompose, PastComposes}
use Rattle.epoch_model.proofs.AnyOf.{any_either, any_union, any_union_over, any_locations_over}

-- ---- past

Ascends-locations_over : (before : Loc → List Loc) → ((l : Loc) → Ascends loc_cmp (before l)) → (ls : List Loc) → Ascends loc_cmp (locations_over before ls)
Ascends-locations_over before h [] = tt
Ascends-locations_over before h (l ∷ []) = h l
Ascends-locations_over before h (l ∷ m ∷ ls) = Ascends-union loc_total (before l) _ (Ascends-locations_over before h (m ∷ ls))

pub Ascends-past : (rule : Rule) (trace : List StepSeen) (s n : ℕ) (l : Loc) → Ascends loc_cmp (past rule trace s n l)
Ascends-past rule trace s zero l = (tt, tt)
Ascends-past rule trace s (suc n) l = Ascends-locations_over (past rule trace s n) (Ascends-past rule trace s n) (from_step rule (step_at trace (s + n)) l)

-- some location of the past over both stretches passes the test where some of the past over the second has one in its
-- past over the first
pub any_past : (f : Loc → Bool) (rule : Rule) (trace : List StepSeen) (r m n : ℕ) (l : Loc)
    → list_any f (past rule trace r (m + n) l) ≡ list_any (λ k. list_any f (past rule trace r m k)) (past rule trace (r + m) n l)
any_past f rule trace r m zero l =
    let none : m + 0 ≡ m = omega arith in
    ap (λ (i : ℕ). list_any f (past rule trace r i l)) none ∙ sym (or-false (list_any f (past rule trace r m l)))
any_past f rule trace r m (suc n) l =
    let later : m + suc n ≡ suc (m + n) = omega arith in
    let place : r + (m + n) ≡ (r + m) + n = omega arith in
    let before = from_step rule (step_at trace ((r + m) + n)) l in
    ap (λ (i : ℕ). list_any f (past rule trace r i l)) later
    ∙ ap (λ (t : ℕ). list_any f (locations_over (past rule trace r (m + n)) (from_step rule (step_at trace t) l))) place
    ∙ any_locations_over f (past rule trace r (m + n)) before
    ∙ list_any-same _ _ (any_past f rule trace r m n) before
    ∙ sym (any_locations_over (λ k. list_any f (past rule trace r m k)) (past rule trace (r + m) n) before)

pub past_composes : PastComposes
past_composes rule trace r m n l =
    same_list loc_total loc_same _ _ (Ascends-past rule trace r (m + n) l)
    (Ascends-locations_over (past rule trace r m) (Ascends-past rule trace r m) (past rule trace (r + m) n l))
    (λ q. any_past (eq_by_cmp loc_cmp q) rule trace r m n l ∙ sym (any_locations_over (eq_by_cmp loc_cmp q) (past rule trace r m) (past rule trace (r + m) n l)))

-- ---- origins

any_origins : (f : SourceByte → Bool) (policy : Policy) (trace : List StepSeen) (s n : ℕ) (l : Loc)
    → list_any f (origins policy trace (s + n) l) ≡ (list_any f (born policy trace s n l) || list_any (λ k. list_any f (origins policy trace s k)) (past policy.rule trace s n l))
any_origins f policy trace s zero l =
    let none : s + 0 ≡ s = omega arith in
    ap (λ (t : ℕ). list_any f (origins policy trace t l)) none ∙ sym (or-false (list_any f (origins policy trace s l)))
any_origins f policy trace s (suc n) l =
    let later : s + suc n ≡ suc (s + n) = omega arith in
    ap (λ (t : ℕ). list_any f (origins policy trace t l)) later ∙ by (any_origins f policy trace s n) (step_at trace (s + n)) where
      at_start : Loc → Bool
      at_start k = list_any f (origins policy trace s k)

      by : ((k : Loc) → list_any f (origins policy trace (s + n) k) ≡ (list_any f (born policy trace s n k) || list_any at_start (past policy.rule trace s n k)))
          → (o : Option StepSeen)
          → list_any f (after_step policy o (origins policy trace (s + n)) l)
          ≡ (list_any f (union source_cmp (fresh_step policy o l) (union_over (born policy trace s n) (from_step policy.rule o l)))
          || list_any at_start (locations_over (past policy.rule trace s n) (from_step policy.rule o l)))
      by ih None = ih l
      by ih (Some step) =
          let new = list_any f (fresh policy step l) in
          let before = from policy.rule step l in
          let old = list_any (λ k. list_any f (born policy trace s n k)) before in
          let older = list_any (λ k. list_any at_start (past policy.rule trace s n k)) before in
          any_union source_same f (fresh policy step l) (union_over (origins policy trace (s + n)) before)
          ∙ ap (λ (b : Bool). new || b) (any_union_over f (origins policy trace (s + n)) before ∙ list_any-same _ _ ih before ∙ any_either _ _ before)
          ∙ sym (or_assoc new old older)
          ∙ sym (ap₂ (λ (a b : Bool). a || b)
          (any_union source_same f (fresh policy step l) (union_over (born policy trace s n) before) ∙ ap (λ (b : Bool). new || b) (any_union_over f (born policy trace s n) before))
          (any_locations_over at_start (past policy.rule trace s n) before))

pub origins_compose : OriginsCompose
origins_compose policy trace s n l =
    let before = past policy.rule trace s n l in
    same_list source_total source_same _ _ (Ascends-origins policy trace (s + n) l)
    (Ascends-union source_total (born policy trace s n l) _ (Ascends-union_over (origins policy trace s) (Ascends-origins policy trace s) before))
    (λ q. any_origins (eq_by_cmp source_cmp q) policy trace s n l
    ∙ sym (any_union source_same (eq_by_cmp source_cmp q) (born policy trace s n l) (union_over (origins policy trace s) before)
    ∙ ap (λ (b : Bool). list_any (eq_by_cmp source_cmp q) (born policy trace s n l) || b) (any_union_over (eq_by_cmp source_cmp q) (origins policy trace s) before)))
