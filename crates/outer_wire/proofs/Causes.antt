-- The causes of calls made one after another, of which the first didn't fail.
use Rattle.std.proofs.Common.{◌≡◌, ◌≤◌, subst, refl, arith, ℕ, Ok, Err}
use Rattle.outer_io.specs.Faults.{Rose, HasCause}

-- none failed
pub none_failed : {T E : Type 0} (a b : ℕ) (x : T) → b ≡ a → HasCause {T = T} {E = E} a b (Ok x)
none_failed a b x same = record { later = omega (arith, same); failed = λ is. cc; stood = λ is. same }

-- the last one failed
pub last_failed : {T E U F : Type 0} (a b c : ℕ) (e : E) (f : F) → b ≡ a → HasCause {T = T} {E = E} b c (Err e) → HasCause {T = U} {E = F} a c (Err f)
last_failed a b c e f same h = record {
  later = omega (arith, same, h.later);
  failed = λ is. subst (λ (n : ℕ). Rose n c) same (h.failed refl);
  stood = λ is. cc;
}

-- the same of the count alone
pub rose_last : {T E : Type 0} (a b c : ℕ) (e : E) → b ≡ a → HasCause {T = T} {E = E} b c (Err e) → (a ≤ c) × Rose a c
rose_last a b c e same h = (omega (arith, same, h.later), subst (λ (n : ℕ). Rose n c) same (h.failed refl))
