-- The source bytes that are gathered from terms and answers. Crates above cite these lemmas.
use Rattle.std.proofs.Common.{◌≡◌, ℕ, ◌+◌, ◌<◌, List, [], length, take, get_or, refl, ap, sym, subst, ◌∙◌, Bool, true, false, ◌||◌}
use Rattle.std.specs.List.{list_any}
use Rattle.std.specs.Ordering.{eq_by_cmp}
use Rattle.std.specs.declared.cmp.Ordering.{Ordering}
use Rattle.std.proofs.lemmas.List.Folds.{list_any_more}
use Rattle.std.proofs.Math.Bool.{or_assoc}
use Rattle.flow_model.specs.declared.Loc.{Loc}
use Rattle.flow_model.specs.declared.SourceByte.{SourceByte}
use Rattle.flow_model.specs.Orders.{source_cmp}
use Rattle.flow_model.specs.Origins.{union_over}
use Rattle.flow_model.proofs.Orders.{source_total, source_same}
use Rattle.flow_model.proofs.Derived.{source_compared, source_order_is}
use Rattle.flow_model.proofs.Origins.{Ascends-union_over}
use Rattle.lists.specs.Sets.{Ascends, has}
use Rattle.lists.proofs.Algebra.{Ascends-union, has-union, same_list}
use Rattle.epoch_model.specs.Summary.{Terms}
use Rattle.epoch_model.specs.Join.{resolved}
use Rattle.epoch_model.proofs.AnyOf.{any_union_over}

-- ---- the order in which the code compares source bytes

abbrev Order : Type 0
Order = SourceByte → SourceByte → Ordering

abbrev pub compared : Order
compared = source_compared

pub order_is : compared ≡ source_cmp
order_is = sym source_order_is

pub members_by : (xs ys : List SourceByte) → ((b : SourceByte) → has compared b xs ≡ has compared b ys) → (b : SourceByte) → has source_cmp b xs ≡ has source_cmp b ys
members_by xs ys h = subst (λ (R : Order). ((b : SourceByte) → has R b xs ≡ has R b ys)) order_is h

pub ascends_by : (xs : List SourceByte) → Ascends compared xs → Ascends source_cmp xs
ascends_by xs a = subst (λ (R : Order). Ascends R xs) order_is a

pub ascends_in : (xs : List SourceByte) → Ascends source_cmp xs → Ascends compared xs
ascends_in xs a = subst (λ (R : Order). Ascends R xs) (sym order_is) a

-- ---- what is gathered

-- the source byte is one of these, or of those that some of the locations have
abbrev pub among : (Loc → List SourceByte) → List SourceByte → List Loc → SourceByte → Bool
among before sources starts b = has source_cmp b sources || list_any (λ l. has source_cmp b (before l)) starts

-- with no location
pub among_none : (before : Loc → List SourceByte) (sources : List SourceByte) (b : SourceByte) → has source_cmp b sources ≡ among before sources [] b
among_none before sources b = by (has source_cmp b sources) where
  by : (c : Bool) → c ≡ (c || false)
  by true = refl
  by false = refl

-- with one more location
pub among_more : (before : Loc → List SourceByte) (sources : List SourceByte) (starts : List Loc) (b : SourceByte) (i : ℕ) (d : Loc) → i < length starts
    → among before sources (take (i + 1) starts) b ≡ (among before sources (take i starts) b || has source_cmp b (before (get_or starts i d)))
among_more before sources starts b i d h =
    ap (λ (c : Bool). has source_cmp b sources || c) (list_any_more (λ l. has source_cmp b (before l)) starts i d h)
    ∙ sym (or_assoc (has source_cmp b sources) (list_any (λ l. has source_cmp b (before l)) (take i starts)) (has source_cmp b (before (get_or starts i d))))

has-resolved : (before : Loc → List SourceByte) (t : Terms) (b : SourceByte) → has source_cmp b (resolved before t) ≡ among before t.sources t.starts b
has-resolved before t b =
    has-union source_total t.sources (union_over before t.starts) b
    ∙ ap (λ (c : Bool). has source_cmp b t.sources || c) (any_union_over (eq_by_cmp source_cmp b) before t.starts)

-- the set of what is gathered are the resolved terms
pub resolved_is : (before : Loc → List SourceByte) → ((l : Loc) → Ascends source_cmp (before l)) → (t : Terms) (all : List SourceByte)
    → Ascends source_cmp all → ((b : SourceByte) → has source_cmp b all ≡ among before t.sources t.starts b) → all ≡ resolved before t
resolved_is before h t all a members =
    same_list source_total source_same all (resolved before t) a
    (Ascends-union source_total t.sources (union_over before t.starts) (Ascends-union_over before h t.starts))
    (λ b. members b ∙ sym (has-resolved before t b))
