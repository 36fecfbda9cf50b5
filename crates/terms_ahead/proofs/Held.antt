-- What is read of nodes, at once or one by one.
use Rattle.std.proofs.Common.{◌≡◌, ℕ, ◌<◌, ◌⊎◌, inl, inr, List, [], ◌∷◌, ◌++◌, length, map, slice_get, ap, sym, subst, ◌∙◌, arith, length-append}
use Rattle.std.specs.Prelude.{Some}
use Rattle.std.specs.Option.{option_map}
use Rattle.std.proofs.lemmas.Option.{slice_get-map}
use Rattle.std.proofs.lemmas.List.Elements.{All-push}
use Rattle.merge_log.specs.declared.nodes.Entry.{Entry}
use Rattle.merge_log.specs.Log.{IsNode, Terms, terms}
use Rattle.terms_ahead.specs.Ahead.{AreNext}

at_front : (next : List ℕ) (n first : ℕ) → slice_get next 0 ≡ Some first → slice_get (next ++ n ∷ []) 0 ≡ Some first
at_front [] n first h = cc
at_front (m ∷ next) n first h = h

-- one node more to read, or none
pub next_more : (log : List Entry) (node : ℕ) (old new : List ℕ) (n : ℕ) → AreNext log node old → length old < 64 → IsNode log n
    → (new ≡ old) ⊎ (new ≡ old ++ n ∷ []) → AreNext log node new
next_more log node old new n a room stands (inl e) = subst (AreNext log node) (sym e) a
next_more log node old new n a room stands (inr e) = subst (AreNext log node) (sym e) (record {
  first = at_front old n node a.first;
  stand = All-push (IsNode log) old n a.stand stands;
  few = omega (arith, length-append old (n ∷ []), room);
})

-- what is held at the place of a node are its terms
pub held_read : (log : List Entry) (nodes : List ℕ) (held : List Terms) (place n : ℕ) (read : Terms) → held ≡ map (terms log) nodes → slice_get nodes place ≡ Some n
    → slice_get held place ≡ Some read → read ≡ terms log n
held_read log nodes held place n read are h is =
    let at : slice_get held place ≡ Some (terms log n) =
    ap (λ (ts : List Terms). slice_get ts place) are ∙ slice_get-map (terms log) nodes place ∙ ap (option_map (terms log)) h in
    let both : Some read ≡ Some (terms log n) = sym is ∙ at in
    cc
