-- What came of several analyses.
use Rattle.std.proofs.Common.{◌≡◌, List, [], ◌∷◌, map, sym, subst}
use Rattle.std.specs.Prelude.{Result, Ok, Err, IfOk, MatchResult}
use Rattle.std.specs.List.{AllZip, Contains}

module _ {X Y E : Type 0} (R : X → Y → Type 0) where
  all_ok : (xs : List X) (ys : List Y) (us : List (Result Y E)) → us ≡ map Ok ys → AllZip (λ x u. IfOk u (R x)) xs us → AllZip R xs ys
  all_ok [] [] us e a = tt
  all_ok [] (y ∷ ys) [] e a = cc
  all_ok (x ∷ xs) [] (u ∷ us) e a = cc
  all_ok (x ∷ xs) (y ∷ ys) [] e a = cc
  all_ok (x ∷ xs) (y ∷ ys) (u ∷ us) e a =
      let first : u ≡ Ok y = cc in
      let rest : us ≡ map Ok ys = cc in
      (subst (λ v. IfOk v (R x)) first a.0, all_ok xs ys us rest a.1)
  all_ok xs ys us e a = absurd a

  -- where none gave up, what is true of each is true of those that are collected
  pub all_collected : {C : Type 0} (items : C → List Y) (xs : List X) (us : List (Result Y E)) (r : Result C E) → AllZip (λ x u. IfOk u (R x)) xs us
      → MatchResult r (λ c. (ys : List Y) × (us ≡ map Ok ys) × (items c ≡ ys)) (λ e. Contains us (Err e)) → IfOk r (λ c. AllZip R xs (items c))
  all_collected items xs us (Ok c) a m =
      subst (λ ys. AllZip R xs ys) (sym m.2) (all_ok xs m.0 us m.1 a)
  all_collected items xs us (Err e) a m = tt
