-- Whether cores are done, one after another.
use Rattle.std.proofs.Common.{◌≡◌, ℕ, zero, suc, ◌<◌, List, [], ◌∷◌, ◌++◌, length, get_or, sym, subst, arith}
use Rattle.epoch_node.specs.Cores.{CoreView}
use Rattle.jet_core.specs.Lines.{IsCoreDone, AreDone}

-- so many of them are done
abbrev pub DoneTo : ℕ → List CoreView → Type 0
DoneTo (suc n) (c ∷ cs) = IsCoreDone c × DoneTo n cs
DoneTo n cs = Unit {0}

pub done_next : (n : ℕ) (cs : List CoreView) (c : CoreView) → DoneTo n cs → get_or cs n c ≡ c → IsCoreDone c → DoneTo (suc n) cs
done_next n [] c d e h = tt
done_next zero (x ∷ cs) c d e h = (subst IsCoreDone (sym e) h, tt)
done_next (suc n) (x ∷ cs) c d e h = (d.0, done_next n cs c d.1 e h)

pub done_all : (n : ℕ) (cs : List CoreView) → length cs ≡ n → DoneTo n cs → AreDone cs
done_all n [] e d = tt
done_all zero (c ∷ cs) e d = absurd (omega (arith, e))
done_all (suc n) (c ∷ cs) e d = (d.0, done_all n cs (omega (arith, e)) d.1)

pub one_undone : (n : ℕ) (cs : List CoreView) (c : CoreView) → n < length cs → get_or cs n c ≡ c → (IsCoreDone c → ⊥) → AreDone cs → ⊥
one_undone n [] c b e h d = absurd (omega (arith, b))
one_undone zero (x ∷ cs) c b e h d = h (subst IsCoreDone e d.0)
one_undone (suc n) (x ∷ cs) c b e h d = one_undone n cs c (omega (arith, b)) e h d.1

-- each of them is
pub done_each : (cs rest : List CoreView) (c : CoreView) → AreDone (cs ++ c ∷ rest) → IsCoreDone c
done_each [] rest c d = d.0
done_each (x ∷ cs) rest c d = done_each cs rest c d.1
