-- Texts of which none is the beginning of another.
use Rattle.std.specs.Prelude.{◌≡◌, ℕ, ◌<◌, List, length, take}

-- less than the whole of one of these texts is none of them
abbrev pub ArePrefixFree : {A : Type 0} → (A → List ℕ) → Type 0
ArePrefixFree {A} text = (a other : A) (n : ℕ) → n < length (text a) → text other ≡ take n (text a) → ⊥
