use Rattle.std.proofs.Common.{◌≡◌, ℕ, List, ◌++◌, append_assoc}
use Rattle.jet_refusal.proofs.refusal.push_place.Goals as goal

-- what four calls append one after another
four : (line a b c d : List ℕ) {l1 l2 l3 l4 : List ℕ} → l1 ≡ line ++ a → l2 ≡ l1 ++ b → l3 ≡ l2 ++ c → l4 ≡ l3 ++ d → l4 ≡ line ++ (a ++ b ++ c ++ d)
four line a b c d p q r s = rw (s, r, q, p) (simp append_assoc)

pub returns-clause-text : goal.returns-clause-text
returns-clause-text c = four _ _ _ _ _ c.push_str.ensures c.push_number.ensures.text c.push_str-2.ensures c.push_field.ensures.text
