-- One text after another, of which the last may wait.
use Rattle.std.proofs.Common.{◌≡◌, ◌∙◌, ap, sym, subst, append_assoc, append-nil, ℕ, List, [], ◌++◌, Result}
use Rattle.std.specs.Result.{IsErrAnd}
use Rattle.outer_io.specs.Pieces.{Putting, Laws, Puts}
use Rattle.outer_io.proofs.PiecesLemmas.{puts-fault, puts-then}
use Rattle.sink_collect.specs.Waiting.{waiting}

module _ {S : Type 0} (putting : Putting S) (laws : Laws putting) where
  -- what was put, what waits then, and another text
  joined : (gone waits waited xs ys : List ℕ) → gone ++ waits ≡ waited ++ xs → gone ++ (waits ++ ys) ≡ waited ++ (xs ++ ys)
  joined gone waits waited xs ys e = sym (append_assoc gone waits ys) ∙ ap (λ (text : List ℕ). text ++ ys) e ∙ append_assoc waited xs ys

  pub waiting_laws : Laws (waiting putting)
  waiting_laws = record {
    nothing = λ s. ([], laws.nothing s.0, sym (append-nil s.1));
    whole_then = λ s t u xs ys p q. (
      p.0 ++ q.0,
      laws.whole_then s.0 t.0 u.0 p.0 q.0 p.1 q.1,
      append_assoc p.0 q.0 u.1 ∙ ap (λ (text : List ℕ). p.0 ++ text) q.2 ∙ joined p.0 t.1 s.1 xs ys p.2,
    );
    part_then = λ s t u xs ys p q.
        subst (λ (text : List ℕ). putting.part s.0 text u.0) (joined p.0 t.1 s.1 xs ys p.2) (laws.part_then s.0 t.0 u.0 p.0 (t.1 ++ ys) p.1 q);
    part_first = λ s t xs ys p.
        subst (λ (text : List ℕ). putting.part s.0 text t.0) (append_assoc s.1 xs ys) (laws.part_first s.0 t.0 (s.1 ++ xs) ys p);
  }

  -- after room was made a text was added to what waits
  pub added : (s t : S × List ℕ) (xs new : List ℕ) → (waiting putting).whole s [] t → new ≡ t.1 ++ xs → (waiting putting).whole s xs (t.0, new)
  added s t xs new p e = (p.0, p.1, ap (λ (text : List ℕ). p.0 ++ text) e ∙ joined p.0 t.1 s.1 [] xs p.2)

  -- or no room was made, and a fault came
  pub unmade : {F : Type 0} (Q : F → Type 0) (s t : S × List ℕ) (xs : List ℕ) (r : Result (Unit {0}) F) → IsErrAnd r Q → (waiting putting).part s [] t
      → Puts (waiting putting) s xs t r
  unmade Q s t xs r e p = puts-fault (waiting putting) Q s t xs r e (waiting_laws.part_first s t [] xs p)

  -- in the end what waits is put
  pub put-last : {F : Type 0} (s t u : S) (waits xs : List ℕ) (r : Result (Unit {0}) F) → (waiting putting).whole (s, []) xs (t, waits) → Puts putting t waits u r → Puts putting s xs u r
  put-last s t u waits xs r p q = subst (λ (text : List ℕ). Puts putting s text u r) p.2 (puts-then putting laws s t u p.0 waits r p.1 q)
