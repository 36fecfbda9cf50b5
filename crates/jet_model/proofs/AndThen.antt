-- Steps of which each goes on where the one before it was well. Crates above cite these lemmas.
use Rattle.std.proofs.Common.{◌≡◌, ◌∙◌, ap, sym, refl, subst, ℕ, ◌≤◌, Bool, true, false, nat_lt, ltb-false, Option, Some, None, Result, Ok, Err}
use Rattle.std.specs.Prelude.{if◌then◌else◌}
use Rattle.std.specs.Option.{ok_or}
use Rattle.jet_refusal.specs.declared.refusal.Refusal.{Refusal}
use Rattle.jet_model.specs.Outcomes.{and_then, or_refused, AndThen}

-- what is well is one value
pub ok-one : {A E : Type 0} (r : Result A E) (x y : A) → r ≡ Ok x → r ≡ Ok y → x ≡ y
ok-one r x y d e = cc

-- the next step follows
pub and_then-ok : {A B E : Type 0} (r : Result A E) (next : A → Result B E) (x : A) → r ≡ Ok x → and_then r next ≡ next x
and_then-ok r next x e = ap (λ s. and_then s next) e

-- no step follows
pub and_then-err : {A B E : Type 0} (r : Result A E) (next : A → Result B E) (e : E) → r ≡ Err e → and_then r next ≡ Err e
and_then-err r next e h = ap (λ s. and_then s next) h

-- both steps were well
pub and_then-is_ok : {A B E : Type 0} (r : Result A E) (next : A → Result B E) (y : B) → and_then r next ≡ Ok y → (x : A) × (r ≡ Ok x) × (next x ≡ Ok y)
and_then-is_ok (Ok x) next y h = (x, refl, h)
and_then-is_ok (Err e) next y h = cc

-- a relation follows
pub AndThen-ok : {A B E : Type 0} (r : Result A E) (next : A → Result B E → Type 0) (x : A) (answer : Result B E) → r ≡ Ok x → next x answer → AndThen r next answer
AndThen-ok r next x answer e h = subst (λ (s : Result _ _). AndThen s next answer) (sym e) h

pub AndThen-is_ok : {A B E : Type 0} (r : Result A E) (next : A → Result B E → Type 0) (y : B) → AndThen r next (Ok y) → (x : A) × (r ≡ Ok x) × next x (Ok y)
AndThen-is_ok (Ok x) next y h = (x, refl, h)
AndThen-is_ok (Err e) next y h = cc

-- where one answer at most follows from each value, there is one at most
pub AndThen-one : {A B E : Type 0} (r : Result A E) (next : A → Result B E → Type 0) (p q : Result B E) → ((x : A) → next x p → next x q → p ≡ q) → AndThen r next p → AndThen r next q → p ≡ q
AndThen-one (Ok x) next p q one g h = one x g h
AndThen-one (Err e) next p q one g h = g ∙ sym h

pub or_refused-ok : {A E : Type 0} (refusal_of : E → Refusal) (r : Result A E) (x : A) → r ≡ Ok x → or_refused refusal_of r ≡ Ok x
or_refused-ok refusal_of r x e = ap (or_refused refusal_of) e

pub or_refused-err : {A E : Type 0} (refusal_of : E → Refusal) (r : Result A E) (e : E) → r ≡ Err e → or_refused refusal_of r ≡ Err (refusal_of e)
or_refused-err refusal_of r e h = ap (or_refused refusal_of) h

pub or_refused-is_ok : {A E : Type 0} (refusal_of : E → Refusal) (r : Result A E) (x : A) → or_refused refusal_of r ≡ Ok x → r ≡ Ok x
or_refused-is_ok refusal_of (Ok y) x h = cc
or_refused-is_ok refusal_of (Err e) x h = cc

pub ok_or-is_ok : {A E : Type 0} (o : Option A) (e : E) (x : A) → ok_or o e ≡ Ok x → o ≡ Some x
ok_or-is_ok (Some y) e x h = cc
ok_or-is_ok None e x h = cc

-- a value of no more than the limit
pub within-is_ok : {A : Type 0} (limit n : ℕ) (refused : Refusal) (x y : A) → (if nat_lt limit n then Err refused else Ok x) ≡ Ok y → (x ≡ y) × (n ≤ limit)
within-is_ok limit n refused x y h = by (nat_lt limit n) refl h where
  by : (b : Bool) → nat_lt limit n ≡ b → (if b then Err refused else Ok x) ≡ Ok y → (x ≡ y) × (n ≤ limit)
  by true e h = cc
  by false e h = (cc, ltb-false limit n e)
