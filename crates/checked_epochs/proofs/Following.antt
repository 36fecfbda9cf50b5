-- Epochs that follow one another, taken one at a time from the end of a list that has them the other way round.
use Rattle.std.proofs.Common.{◌≡◌, ℕ, ◌≤◌, List, [], ◌∷◌, ◌++◌, reverse, ap, ◌∙◌, subst, arith}
use Rattle.std.proofs.lemmas.List.{reverse-append}
use Rattle.epoch_cut.specs.Numbered.{NumberedEpoch}
use Rattle.checked_epochs.specs.Aheads.{Follow}

pub follow_late : (s : ℕ) (es : List NumberedEpoch) (t : ℕ) → Follow s es t → s ≤ t
follow_late s [] t f = omega (arith, f)
follow_late s (e ∷ es) t f = let later = follow_late e.past_last es t f.2 in let one = f.1 in omega arith

-- the last element is the first of the reversed list
pub reverse_pop : {X : Type 0} (all rest : List X) (x : X) → all ≡ rest ++ x ∷ [] → reverse all ≡ x ∷ reverse rest
reverse_pop all rest x e = ap reverse e ∙ reverse-append rest (x ∷ [])

-- what is known of the next epoch, and of those after it
pub record Next (s : ℕ) (epoch : NumberedEpoch) (rest : List NumberedEpoch) (t : ℕ) : Type 0 where
  pub begins : epoch.first ≡ s
  pub later : epoch.first ≤ epoch.past_last
  pub within : epoch.past_last ≤ t
  pub follow : Follow epoch.past_last (reverse rest) t

pub follow_next : (s : ℕ) (all rest : List NumberedEpoch) (epoch : NumberedEpoch) (t : ℕ) → all ≡ rest ++ epoch ∷ [] → Follow s (reverse all) t → Next s epoch rest t
follow_next s all rest epoch t e f =
    let g = subst (λ (es : List NumberedEpoch). Follow s es t) (reverse_pop all rest epoch e) f in
    let begins = g.0 in
    let later = g.1 in
    let within = follow_late epoch.past_last (reverse rest) t g.2 in
    record { begins = begins; later = omega arith; within = within; follow = g.2 }
