-- One comparison after another.
use Rattle.std.proofs.Common.{◌≡◌, ℕ, suc, ◌+◌, ◌<◌, ◌≤◌, length, drop, get_or, drop-cons, add-one, arith, Bool, true, false, List, [], ◌∷◌, ◌++◌, Some, None, Result, Ok, Err, refl, ap, ◌∙◌}
use Rattle.std.specs.Prelude.{if◌then◌else◌}
use Rattle.std.proofs.lemmas.List.{drop_all}
use Rattle.replay_model.specs.declared.Field.TheVariants as field
use Rattle.std.specs.Ordering.{int_eq}
use Rattle.std.proofs.lemmas.Bool.Decides.{Decides-int_eq}
use Rattle.std.proofs.lemmas.Bool.{false_from_ne_true}
use Rattle.replay_model.specs.Comparison.{Compared, compared, first_different, bytes_compared}
use Rattle.replay_model.proofs.Agreement.{first_agrees, first_different-same}
use Rattle.replayer.specs.declared.difference.Difference.{Difference}
use Rattle.replayer.specs.Differences.{IsFirst}

pub first_other : (c : Compared) (cs : List Compared) → (c.kept ≡ c.seen → ⊥) → first_different (c ∷ cs) ≡ Some c
first_other c cs e =
    ap (λ (b : Bool). if b then first_different cs else Some c) (false_from_ne_true (int_eq c.kept c.seen) (λ t. e ((Decides-int_eq c.kept c.seen).0 t)))

-- where none of some fields differs, the first difference is among those after them
pub first_after : (cs ds : List Compared) → first_different cs ≡ None → first_different (cs ++ ds) ≡ first_different ds
first_after [] ds e = refl
first_after (c ∷ cs) ds e =
    let here = first_agrees c cs e in
    first_different-same c (cs ++ ds) here.0 ∙ first_after cs ds here.1

-- a difference among some fields is the first, whatever comes after them
pub first_before : (cs ds : List Compared) (d : Compared) → first_different cs ≡ Some d → first_different (cs ++ ds) ≡ Some d
first_before [] ds d e = cc
first_before (c ∷ cs) ds d e = by (first_before cs ds d) (int_eq c.kept c.seen) e
  where
    by : (first_different cs ≡ Some d → first_different (cs ++ ds) ≡ Some d) → (b : Bool) → (if b then first_different cs else Some c) ≡ Some d → (if b then first_different (cs ++ ds) else Some c) ≡ Some d
    by ih true e = ih e
    by ih false e = e

pub first_then : {T : Type 0} (cs ds : List Compared) (r : Result T Difference) → first_different cs ≡ None → IsFirst ds r → IsFirst (cs ++ ds) r
first_then cs ds (Ok u) e h = first_after cs ds e ∙ h
first_then cs ds (Err d) e h = first_after cs ds e ∙ h

pub bytes_step : (i : ℕ) (kept seen : List ℕ) (k s : ℕ) → i < length kept → length seen ≡ length kept → k ≡ get_or kept i 0 → s ≡ get_or seen i 0 → bytes_compared i (drop i kept) (drop i seen) ≡ compared (field.Byte i) k s ∷ bytes_compared (i + 1) (drop (i + 1) kept) (drop (i + 1) seen)
bytes_step i kept seen k s h e ek es =
    let here : drop i kept ≡ get_or kept i 0 ∷ drop (suc i) kept = drop-cons kept i 0 h in
    let below : i < length seen = omega arith in
    let there : drop i seen ≡ get_or seen i 0 ∷ drop (suc i) seen = drop-cons seen i 0 below in
    rw (here, there, add-one i, ek, es) refl

pub bytes_done : (i : ℕ) (kept seen : List ℕ) → length kept ≤ i → first_different (bytes_compared i (drop i kept) (drop i seen)) ≡ None
bytes_done i kept seen h = rw (drop_all i kept h) refl
