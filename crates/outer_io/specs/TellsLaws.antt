-- Laws of what is told, for the laws of traits: how it goes on over several calls, and beginnings of lists.
use Rattle.std.proofs.Common.{◌≡◌, ◌≤◌, ◌<◌, ◌∙◌, ap, sym, refl, arith, ℕ, Bool, true, false, nat_lt, ◌-◌, ◌^◌, List, ◌++◌, length, take, drop, Option, Some, None, take-append-drop}
use Rattle.std.proofs.Math.Seq.{take-append_seam}
use borrow.Author.Tests.{ltb-true, ltb-false}
use Rattle.outer_io.specs.Faults.{Rose}
use Rattle.outer_io.specs.Tells.{Tells, IsPrefix}

-- two steps are one
pub tells-then : {A : Type 0} (a b c : Option A) (R Q T : A → A → Type 0)
    → ((x y z : A) → R x y → Q y z → T x z) → Tells a b R → Tells b c Q → Tells a c T
tells-then a b None R Q T f p q = tt
tells-then a None (Some z) R Q T f p q = absurd q
tells-then None (Some y) (Some z) R Q T f p q = absurd p
tells-then (Some x) (Some y) (Some z) R Q T f p q = f x y z p q

-- what is told says less
pub tells-map : {A : Type 0} (a b : Option A) (R T : A → A → Type 0)
    → ((x y : A) → R x y → T x y) → Tells a b R → Tells a b T
tells-map a None R T f p = tt
tells-map None (Some y) R T f p = absurd p
tells-map (Some x) (Some y) R T f p = f x y p

-- nothing changes what is told
pub tells-same : {A : Type 0} (a : Option A) (R : A → A → Type 0) → ((x : A) → R x x) → Tells a a R
tells-same None R f = tt
tells-same (Some x) R f = f x

-- a count that rose after some calls rose over all of them
pub rose-earlier : (a b c : ℕ) → a ≤ b → Rose b c → b ≤ c → Rose a c
rose-earlier a b c h r k = by (nat_lt b (2 ^ 64 - 1)) refl where
  by : (t : Bool) → nat_lt b (2 ^ 64 - 1) ≡ t → Rose a c
  by true e = λ below. let step : b < c = r (ltb-true b (2 ^ 64 - 1) e) in omega (arith, step, h)
  by false e = λ below. let high : 2 ^ 64 - 1 ≤ b = ltb-false b (2 ^ 64 - 1) e in omega (arith, high, k, below)

-- ---- beginnings of a list

-- what stands in front of the rest is a prefix of the whole
pub prefix-front : {A : Type 0} (front rest whole : List A) → front ++ rest ≡ whole → IsPrefix front whole
prefix-front front rest whole e = ap (λ w. take (length front) w) (sym e) ∙ take-append_seam front rest

-- and the other way round
pub prefix-rest : {A : Type 0} (front whole : List A) → IsPrefix front whole → front ++ drop (length front) whole ≡ whole
prefix-rest front whole p = ap (λ w. w ++ drop (length front) whole) (sym p) ∙ take-append-drop (length front) whole
